use Rattle.std.proofs.Common.{◌≡◌, ◌<◌, ◌∙◌, ap, arith, cond, length, sym}
use Rattle.std.proofs.Math.ListN.{set}
use Rattle.ing_rows.specs.declared.place.Place.TheVariants.{Block}
use Rattle.ing_rows.specs.Rows.{Row, stream}
use Rattle.ing_rows.specs.Steps.{in_head}
use Rattle.ing_plain.proofs.PlainLaws.{mapped_more}
use Rattle.ing_plain.proofs.plain.chunk.close_head.Goals as goal

pub loop-row-preserved : goal.loop-row-preserved
loop-row-preserved c =
    let f : Row → Row = λ r. cond (in_head (stream c.args.tenant.now c.args.name.now) c.args.chunk r) (record r { place = Block }) r in
    let index = c.loop-row.row-index in
    let now = c.loop-row.rows in
    let here : index < length now = omega arith in
    let many : length now ≡ length c.args.rows.now = omega arith in
    ap (λ x. set now index x) (c.close.ensures ∙ ap f (sym c.row-item.is)) ∙ mapped_more f c.args.rows.now now index c.row-item.result c.loop-row.invariant here many c.row-item.is
