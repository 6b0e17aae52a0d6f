use Rattle.std.proofs.Common.{◌∙◌}
use Rattle.ing_rows.specs.declared.fault.RowFault.TheVariants.{BadStamp}
use Rattle.ctl_feed.proofs.TimeLaws.{digits_are, instant_is, no_time}
use Rattle.ctl_feed.proofs.stamps.time_in.Goals as goal

pub returns-in_default : goal.returns-in_default
returns-in_default c = no_time c.args.word.now c.in_default.ensures.cases.0

pub returns-in-Ok-of_text : goal.returns-in-Ok-of_text
returns-in-Ok-of_text c = digits_are c.args.word.now c.in-Ok.text.now c.in-Ok-of_text.stamp BadStamp c.in-Ok.ensures.cases.0 c.in-Ok.ensures.cases.1 c.in-Ok-of_text.ensures

pub returns-in-Err : goal.returns-in-Err
returns-in-Err c = c.instant_in.ensures ∙ instant_is c.args.word.now c.in-Ok.text.now c.in-Err.field-0 BadStamp c.in-Ok.ensures.cases.0 c.in-Ok.ensures.cases.1 c.in-Err.ensures
