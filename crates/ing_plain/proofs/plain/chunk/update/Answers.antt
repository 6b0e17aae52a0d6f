use Rattle.std.proofs.Common.{◌≡◌, ◌<◌, ◌∙◌, ap, arith, cond, length, sym}
use Rattle.std.proofs.Math.ListN.{set}
use Rattle.ing_rows.specs.Rows.{Mark, stream}
use Rattle.ing_rows.specs.Steps.{is_growing}
use Rattle.ing_plain.proofs.PlainLaws.{mapped_more}
use Rattle.ing_plain.proofs.plain.chunk.update.Goals as goal

pub loop-mark-preserved : goal.loop-mark-preserved
loop-mark-preserved c =
    let f : Mark → Mark = λ m. cond (is_growing (stream c.args.tenant.now c.args.name.now) m) (record m { last_update = c.args.now }) m in
    let index = c.loop-mark.mark-index in
    let now = c.loop-mark.marks in
    let here : index < length now = omega arith in
    let many : length now ≡ length c.args.marks.now = omega arith in
    ap (λ x. set now index x) (c.update.ensures ∙ ap f (sym c.mark-item.is)) ∙ mapped_more f c.args.marks.now now index c.mark-item.result c.loop-mark.invariant here many c.mark-item.is
