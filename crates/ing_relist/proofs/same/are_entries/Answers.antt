use Rattle.std.proofs.Common.{◌≡◌, ◌<◌, ◌∙◌, arith, get_or, length, ap, sym}
use Rattle.std.proofs.lemmas.List.{take_more_same}
use Rattle.ing_relist.proofs.SameLaws.{same_numbered}
use Rattle.ing_relist.proofs.same.are_entries.Goals as goal

-- one entry more is the same
pub loop-place-preserved : goal.loop-place-preserved
loop-place-preserved c =
    let lent = c.args.lent.now in
    let entries = c.args.entries.now in
    let i = c.loop-place.place in
    let a = c.index-lent-place.result in
    let b = c.index-entries-place.result in
    let same : a ≡ b = same_numbered b a (sym c.is_entry.ensures ∙ c.if-not-is_entry.false) in
    let there : i < length entries = omega (arith, c.loop-place-test.true, c.if-lent-entries.false) in
    take_more_same lent entries i a c.loop-place-test.true there c.loop-place.invariant
    (sym c.index-lent-place.is ∙ same ∙ c.index-entries-place.is ∙ ap (get_or entries i) (sym same))
