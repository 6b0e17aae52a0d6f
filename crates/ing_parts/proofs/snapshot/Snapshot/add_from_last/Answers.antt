use Rattle.std.proofs.Common.{◌≡◌, ◌-◌, ◌+◌, ◌∷◌, drop, ap, ◌∙◌, arith, ℕ}
use Rattle.ing_chunk.specs.Chunks.{entries_of, entries_of_all}
use Rattle.ing_parts.proofs.OfferLaws.{left_from}
use Rattle.ing_parts.proofs.RangeLaws.{adds_previous}
use Rattle.ing_parts.proofs.snapshot.Snapshot.add_from_last.Goals as goal

pub loop-index-preserved : goal.loop-index-preserved
loop-index-preserved g c =
    let at = c.loop-index in
    let cs = c.args.chunks.now in
    let i : ℕ = at.index - 1 in
    let x = c.index-chunks-index.result in
    let next : i + 1 ≡ at.index = omega arith in
    let left = ap entries_of_all (left_from cs i x (omega arith) c.index-chunks-index.is ∙ ap (λ n. x ∷ drop n cs) next) in
    adds_previous c.args.name.now (entries_of_all (drop at.index cs)) (entries_of x) (entries_of_all (drop i cs)) c.args.self.now at.self c.add_chunk.new.self left at.invariant c.in_ok-add_chunk.ensures
