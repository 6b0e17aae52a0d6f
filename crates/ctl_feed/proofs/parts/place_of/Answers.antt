use Rattle.ctl_feed.proofs.PartLaws.{no_place, place_found}
use Rattle.ctl_feed.proofs.parts.place_of.Goals as goal

pub returns-in-Some-clause-place : goal.returns-in-Some-clause-place
returns-in-Some-clause-place c = place_found c.args.mark c.args.bytes.now c.in-Some.at c.in-Some.ensures

pub returns-in-None-clause-place : goal.returns-in-None-clause-place
returns-in-None-clause-place c = no_place c.args.mark c.args.bytes.now c.in-None.ensures
