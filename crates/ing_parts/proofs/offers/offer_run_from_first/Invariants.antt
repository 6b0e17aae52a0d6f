use Rattle.std.proofs.Common.{take}
use Rattle.ing_parts.specs.Answers.{Offers}
use Rattle.ing_parts.specs.Parts.{found_between}
use Rattle.ing_parts.specs.Questions.{question_view}
use Rattle.ing_parts.proofs.offers.offer_run_from_first.Given as goal

-- those so far are offered
abbrev pub invariant-loop-numbered : goal.invariant-loop-numbered
invariant-loop-numbered l = Offers (found_between l.name (question_view l.question) (take l.numbered-index l.run)) l.initial.best l.best
