use Rattle.std.proofs.Common.{arith, ap, ◌∙◌}
use Rattle.std.proofs.lemmas.Map.Text.{text_keys}
use Rattle.toml.specs.View.{members_view}
use Rattle.ctl_explain.specs.InForce.{all_entries}
use Rattle.ctl_explain.proofs.Flawless.{entries_kept}
use Rattle.ctl_explain.proofs.in_force.put_value.Goals as goal

pub returns-clause-found : goal.returns-clause-found
returns-clause-found c = λ name. grind (arith, text_keys)

pub returns-clause-kept : goal.returns-clause-kept
returns-clause-kept c = λ p old new.
    ap (λ es. all_entries p (members_view es)) c.in_ok-insert.ensures.entries ∙ entries_kept p c.args.key c.args.value c.args.table.now.entries old new
