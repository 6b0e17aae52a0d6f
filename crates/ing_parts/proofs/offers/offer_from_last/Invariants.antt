use Rattle.std.proofs.Common.{drop}
use Rattle.ing_parts.specs.Answers.{Offers}
use Rattle.ing_parts.specs.Parts.{found_between}
use Rattle.ing_parts.specs.Questions.{question_view}
use Rattle.ing_parts.proofs.offers.offer_from_last.Given as goal

-- those from the index on are offered
abbrev pub invariant-loop-index : goal.invariant-loop-index
invariant-loop-index l = Offers (found_between l.name (question_view l.question) (drop l.index l.entries)) l.initial.best l.best
