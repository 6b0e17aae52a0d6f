use Rattle.ctl_explain.proofs.AllRefusals.{all_are_there, numbers_rise}
use Rattle.ctl_explain.proofs.lookup.pages.Goals as goal

pub returns-clause-each : goal.returns-clause-each
returns-clause-each c = all_are_there

pub returns-clause-order : goal.returns-clause-order
returns-clause-order c = numbers_rise
