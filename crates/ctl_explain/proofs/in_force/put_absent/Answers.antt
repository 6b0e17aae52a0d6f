use Rattle.std.specs.Prelude.{bytes_eq}
use Rattle.ctl_explain.specs.InForce.{given_data}
use Rattle.ctl_explain.proofs.FillLaws.{put_data}
use Rattle.ctl_explain.proofs.in_force.put_absent.Goals as goal

pub returns-clause-found : goal.returns-clause-found
returns-clause-found c = λ name.
    put_data c.args.table.now c.put_value.new.table name (bytes_eq name c.args.key.now) c.in_ok-value.value (given_data c.args.given)
    (rw c.in_ok-name.ensures.ok at (c.in_ok-put_value.ensures.found name)) c.in_ok-value.ensures

pub returns-clause-kept : goal.returns-clause-kept
returns-clause-kept c = λ p old new. c.in_ok-put_value.ensures.kept p old (rw (c.in_ok-name.ensures.ok, c.in_ok-value.ensures) new)
