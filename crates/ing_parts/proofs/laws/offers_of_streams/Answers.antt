use Rattle.ing_parts.specs.Parts.{found_of, is_within}
use Rattle.ing_parts.proofs.OfferLaws.{front_of_run, offers_from, offers_next, offers_none, offers_out, offers_previous, refused_or_out, rest_of_run}
use Rattle.ing_parts.proofs.laws.offers_of_streams.Goals as goal

pub returns-clause-next : goal.returns-clause-next
returns-clause-next c = offers_next

pub returns-clause-previous : goal.returns-clause-previous
returns-clause-previous c = offers_previous

pub returns-clause-one : goal.returns-clause-one
returns-clause-one c = λ name q e b still. refused_or_out b (found_of name e) (is_within q (found_of name e)) still

pub returns-clause-out : goal.returns-clause-out
returns-clause-out c = offers_out

pub returns-clause-from : goal.returns-clause-from
returns-clause-from c = offers_from

pub returns-clause-none : goal.returns-clause-none
returns-clause-none c = λ name q b. offers_none b

pub returns-clause-rest : goal.returns-clause-rest
returns-clause-rest c = λ name q run i e old b up within is. rest_of_run c.stamps_rise.ensures name q run up i e within is old b

pub returns-clause-front : goal.returns-clause-front
returns-clause-front c = λ name q run i e old b up within is. front_of_run c.stamps_rise.ensures name q run up i e within is old b
