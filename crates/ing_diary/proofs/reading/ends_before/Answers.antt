use Rattle.std.proofs.Common.{◌≡◌, ◌+◌, ◌≤◌, ap, ◌∙◌, arith, filter, length}
use Rattle.std.proofs.lemmas.Bool.{leb-true}
use Rattle.ing_chunk.specs.Chunks.{in_blocks}
use Rattle.ing_diary.specs.Fronts.{is_from}
use Rattle.ing_diary.proofs.ReadLaws.{blocks_before}
use Rattle.ing_diary.proofs.reading.ends_before.Goals as goal

pub returns : goal.returns
returns g c told =
    let spelt = c.is_spelt.ensures in
    let o = spelt.object in
    let below = leb-true _ _ told in
    let first : c.extent-extent.result.first ≡ o.first = ap (λ e. e.first) c.extent-extent.ensures.value ∙ spelt.first in
    let count : c.extent-extent.result.count ≡ length (in_blocks o.blocks) = ap (λ e. e.count) c.extent-extent.ensures.value ∙ ap (λ bs. length (in_blocks bs)) spelt.blocks in
    let past : o.first + length (in_blocks o.blocks) ≤ c.args.front = omega (arith, below, first, count, c.from.ensures) in
    ap (λ bs. filter (is_from c.args.front) (in_blocks bs)) spelt.blocks ∙ blocks_before c.args.front o.first o.blocks spelt.is.numbered.parts past
