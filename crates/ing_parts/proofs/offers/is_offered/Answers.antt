use Rattle.std.proofs.Common.{sym, ◌∙◌}
use Rattle.ing_parts.specs.Parts.{found_of, is_within}
use Rattle.ing_parts.specs.Questions.{question_view}
use Rattle.ing_parts.proofs.OfferLaws.{holds, offers_out, refused_or_out}
use Rattle.ing_parts.proofs.offers.is_offered.Goals as goal

pub returns-then-wants-clause-passed : goal.returns-then-wants-clause-passed
returns-then-wants-clause-passed c = λ kept.
    let e = c.args.numbered.now in
    let f = found_of c.args.name.now e in
    refused_or_out c.args.best.now f (is_within (question_view c.args.question.now) f) (c.refuses.ensures (holds c.refuses.result kept) e.entry (sym c.nanoseconds-stamp.ensures.value))
