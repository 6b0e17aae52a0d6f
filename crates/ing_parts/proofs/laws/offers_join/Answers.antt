use Rattle.ing_parts.proofs.OfferLaws.{offers_alike, offers_answered, offers_both, offers_none, offers_passed}
use Rattle.ing_parts.proofs.laws.offers_join.Goals as goal

pub returns-clause-none : goal.returns-clause-none
returns-clause-none c = offers_none

pub returns-clause-both : goal.returns-clause-both
returns-clause-both c = offers_both

pub returns-clause-alike : goal.returns-clause-alike
returns-clause-alike c = offers_alike

pub returns-clause-passed : goal.returns-clause-passed
returns-clause-passed c = offers_passed

pub returns-clause-answered : goal.returns-clause-answered
returns-clause-answered c = offers_answered
