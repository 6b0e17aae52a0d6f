use Rattle.std.proofs.Common.{◌≡◌, ◌-◌, ◌+◌, ◌∷◌, drop, ap, ◌∙◌, arith, ℕ}
use Rattle.ing_chunk.specs.Chunks.{in_blocks}
use Rattle.ing_parts.proofs.OfferLaws.{left_from}
use Rattle.ing_parts.proofs.RangeLaws.{adds_previous}
use Rattle.ing_parts.proofs.snapshot.Snapshot.add_blocks_from_last.Goals as goal

pub loop-index-preserved : goal.loop-index-preserved
loop-index-preserved g c =
    let at = c.loop-index in
    let bs = c.args.blocks.now in
    let i : ℕ = at.index - 1 in
    let b = c.index-blocks-index.result in
    let next : i + 1 ≡ at.index = omega arith in
    let left = ap in_blocks (left_from bs i b (omega arith) c.index-blocks-index.is ∙ ap (λ n. b ∷ drop n bs) next) in
    adds_previous c.args.name.now (in_blocks (drop at.index bs)) b (in_blocks (drop i bs)) c.args.self.now at.self c.add_block.new.self left at.invariant c.in_ok-add_block.ensures
