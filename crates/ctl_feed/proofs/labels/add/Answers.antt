use Rattle.std.proofs.Common.{◌≡◌, [], Ok, true, false, sym, ap, ◌∙◌}
use Rattle.std.specs.Prelude.{is_ok}
use Rattle.std.specs.Result.{result_unwrap_or}
use Rattle.serde_json.specs.View.{members_view}
use Rattle.ctl_feed.specs.Labels.{is_named, members_labels}
use Rattle.ctl_feed.proofs.LabelLaws.{name_found, named_twice, one_more}
use Rattle.ctl_feed.proofs.labels.add.Goals as goal

pub returns-then-contains_key-clause-labels : goal.returns-then-contains_key-clause-labels
returns-then-contains_key-clause-labels c =
    let labels = members_labels (members_view c.args.members.now.entries) in
    let twice : is_named c.in_ok-name.name.now labels ≡ true = sym (name_found c.in_ok-name.name.now c.args.members.now.entries c.requires) ∙ sym c.contains_key.ensures ∙ c.if-contains_key.true in
    λ other. named_twice c.args.at labels c.args.argument.now (c.in_ok-name.name.now, c.in_ok-name.value.now) c.in_ok-name.ensures twice

pub returns-clause-labels : goal.returns-clause-labels
returns-clause-labels c =
    let labels = members_labels (members_view c.args.members.now.entries) in
    let new : is_named c.in_ok-name.name.now labels ≡ false = sym (name_found c.in_ok-name.name.now c.args.members.now.entries c.requires) ∙ sym c.contains_key.ensures ∙ c.if-contains_key.false in
    one_more c.args.at labels c.args.argument.now (c.in_ok-name.name.now, c.in_ok-name.value.now) c.in_ok-name.ensures new
    ∙ ap Ok (sym (ap (λ r. result_unwrap_or r []) c.in_ok-put_label.ensures))

pub returns-clause-texts : goal.returns-clause-texts
returns-clause-texts c = ap is_ok c.in_ok-put_label.ensures
