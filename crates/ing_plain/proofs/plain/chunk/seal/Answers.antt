use Rattle.std.proofs.Common.{◌≡◌, ◌<◌, ◌∙◌, Some, ap, arith, cond, length, sym}
use Rattle.std.proofs.Math.ListN.{set}
use Rattle.ing_rows.specs.Rows.{Mark, stream}
use Rattle.ing_rows.specs.Steps.{is_mark_of}
use Rattle.ing_plain.proofs.PlainLaws.{mapped_more}
use Rattle.ing_plain.proofs.plain.chunk.seal.Goals as goal

pub loop-mark-preserved : goal.loop-mark-preserved
loop-mark-preserved c =
    let f : Mark → Mark = λ m. cond (is_mark_of (stream c.args.tenant.now c.args.name.now) c.args.chunk m) (record m { reason = Some c.args.reason }) m in
    let index = c.loop-mark.mark-index in
    let now = c.loop-mark.marks in
    let here : index < length now = omega arith in
    let many : length now ≡ length c.args.marks.now = omega arith in
    ap (λ x. set now index x) (c.seal.ensures ∙ ap f (sym c.mark-item.is)) ∙ mapped_more f c.args.marks.now now index c.mark-item.result c.loop-mark.invariant here many c.mark-item.is
