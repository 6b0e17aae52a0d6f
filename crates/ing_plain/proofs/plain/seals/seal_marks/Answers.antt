use Rattle.std.proofs.Common.{◌≡◌, ◌<◌, ◌+◌, ◌∙◌, ap, arith, cond, is_some, length, reverse, sym}
use Rattle.std.proofs.Math.ListN.{set}
use Rattle.ing_rows.specs.Rows.{Mark}
use Rattle.ing_rows.specs.Steps.{seal_mark, seal_of}
use Rattle.ing_plain.specs.Plain.{reason_for}
use Rattle.ing_plain.proofs.PlainLaws.{mapped_more}
use Rattle.ing_plain.proofs.PlainSeals.{counted_more}
use Rattle.ing_plain.proofs.plain.seals.seal_marks.Goals as goal
use Rattle.ing_plain.proofs.plain.seals.seal_marks.Goals.{then-seal_for, else-seal_for}

pub loop-mark-preserved : goal.loop-mark-preserved
loop-mark-preserved c =
    let why = reason_for c.args.cause (reverse c.args.rows.now) in
    let f : Mark → Mark = seal_mark why in
    let index = c.loop-mark.mark-index in
    let now = c.loop-mark.marks in
    let count = c.loop-mark.count in
    let here : index < length now = omega arith in
    let many : length now ≡ length c.args.marks.now = omega arith in
    let next : c.if-seal_for.count ≡ cond c.seal_for.result (count + 1) count =
    elim c.if-seal_for.branch [
      | then-seal_for w ↦ w.count-is ∙ sym (ap (λ b. cond b (count + 1) count) w.if-seal_for.true)
      | else-seal_for w ↦ w.count-is ∙ sym (ap (λ b. cond b (count + 1) count) w.if-seal_for.false)
    ] in
    record {
      sealed = ap (λ x. set now index x) (c.seal_for.ensures.mark ∙ ap f (sym c.mark-item.is)) ∙ mapped_more f c.args.marks.now now index c.mark-item.result c.loop-mark.invariant.sealed here many c.mark-item.is;
      counted =
          counted_more f (λ m. is_some (seal_of why m)) c.args.marks.now now index c.mark-item.result c.loop-mark.invariant.sealed here many
          c.seal_for.result count c.if-seal_for.count c.seal_for.ensures.told c.loop-mark.invariant.counted next;
      few = elim c.if-seal_for.branch [ then-seal_for w ↦ omega arith | else-seal_for w ↦ omega arith ];
    }
