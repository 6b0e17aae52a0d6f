use Rattle.std.proofs.Common.{◌≡◌, ◌<◌, ◌∙◌, ap, arith, cond, length, sym}
use Rattle.std.proofs.Math.ListN.{set}
use Rattle.std.proofs.lemmas.List.{get_or_default, set-get_or}
use Rattle.ing_rows.specs.declared.place.Place.TheVariants.{Block}
use Rattle.ing_rows.specs.Rows.{Row}
use Rattle.ing_plain.proofs.PlainSeals.{closed_more}
use Rattle.ing_plain.proofs.plain.seals.close_heads.Goals as goal
use Rattle.ing_plain.proofs.plain.seals.close_heads.Goals.{then-closes, else-closes}

pub loop-i-preserved : goal.loop-i-preserved
loop-i-preserved c =
    let now = c.loop-i.rows in
    let i = c.loop-i.i in
    let x = c.index-all-i.result in
    let closes = c.is_closed_now-closes.result in
    let here : i < length now = omega arith in
    let many : length now ≡ length c.args.rows.now = omega arith in
    let block : Row → Row = λ r. record r { place = Block } in
    let changed : c.if-closes.rows ≡ set now i (cond closes (block x) x) =
    elim c.if-closes.branch [
      | then-closes w ↦
          w.rows-is ∙ ap (set now i) (w.go_to_block.ensures ∙ ap block (get_or_default now i w.index-rows-i.result x here ∙ sym c.index-all-i.is)) ∙ sym (ap (λ b. set now i (cond b (block x) x)) w.if-closes.true)
      | else-closes w ↦
          w.rows-is ∙ sym (set-get_or now i x) ∙ ap (set now i) (sym c.index-all-i.is) ∙ sym (ap (λ b. set now i (cond b (block x) x)) w.if-closes.false)
    ] in
    closed_more c.args.cause c.args.marks.now c.args.rows.now now c.if-closes.rows i x closes c.loop-i.invariant here many c.index-all-i.is c.is_closed_now-closes.ensures changed
