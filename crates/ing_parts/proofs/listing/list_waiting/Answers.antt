use Rattle.std.proofs.Common.{◌+◌, take, ap, ◌∙◌}
use Rattle.ing_chunk.specs.Chunks.{entries_of, entries_of_all}
use Rattle.ing_parts.proofs.OfferLaws.{up_to}
use Rattle.ing_parts.proofs.PartLaws.{parts_next}
use Rattle.ing_parts.proofs.RangeLaws.{entries_of_all-more}
use Rattle.ing_parts.proofs.listing.list_waiting.Goals as goal

pub loop-chunk-preserved : goal.loop-chunk-preserved
loop-chunk-preserved g c =
    let at = c.loop-chunk in
    let cs = c.args.chunks.now in
    let x = c.chunk-item.result in
    parts_next c.args.name.now (entries_of_all (take at.chunk-index cs)) (entries_of x) (entries_of_all (take (at.chunk-index + 1) cs)) c.args.parts.now.items at.parts.items c.list_chunk.new.parts.items
    (ap entries_of_all (up_to cs at.chunk-index x c.loop-chunk-test.true c.chunk-item.is) ∙ entries_of_all-more (take at.chunk-index cs) x) at.invariant c.in_ok-list_chunk.ensures
