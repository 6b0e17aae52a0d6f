use Rattle.std.proofs.Common.{refl, map, subst}
use Rattle.ing_chunk.specs.Chunks.{entries_growing, entries_in_memory, entries_of_all}
use Rattle.ing_parts.specs.Parts.{AddsParts, found_of}
use Rattle.ing_parts.proofs.PartLaws.{parts_next}
use Rattle.ing_parts.proofs.listing.list_chunks.Goals as goal

pub returns : goal.returns
returns g c =
    let name = c.args.name.now in
    let chunks = c.args.chunks.now in
    let old = c.args.parts.now.items in
    let mid = c.list_waiting.new.parts.items in
    let new = c.list_growing.new.parts.items in
    let waiting = subst (λ l. AddsParts (map (found_of name) (entries_of_all l)) old mid) c.waiting_chunks.ensures c.in_ok-list_waiting.ensures in
    parts_next name (entries_of_all chunks.waiting) (entries_growing chunks.growing) (entries_in_memory chunks) old mid new refl waiting c.in_ok-list_growing.ensures
