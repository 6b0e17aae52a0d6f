use Rattle.std.proofs.Common.{map, refl, subst}
use Rattle.ing_chunk.specs.Chunks.{entries_growing, entries_in_memory, entries_of_all}
use Rattle.ing_parts.specs.Parts.{Adds, found_of}
use Rattle.ing_parts.proofs.RangeLaws.{adds_next, adds_previous}
use Rattle.ing_parts.proofs.snapshot.Snapshot.add_chunks.Goals as goal

pub returns-in_ok-add_growing-in-Forward : goal.returns-in_ok-add_growing-in-Forward
returns-in_ok-add_growing-in-Forward g c =
    let name = c.args.name.now in
    let chunks = c.args.chunks.now in
    let mid = c.add_from_first.new.self in
    let waiting = subst (λ l. Adds (map (found_of name) (entries_of_all l)) c.args.self.now mid) c.waiting_chunks.ensures c.in_ok-add_from_first-in-Forward.ensures in
    adds_next name (entries_of_all chunks.waiting) (entries_growing chunks.growing) (entries_in_memory chunks) c.args.self.now mid c.add_growing.new.self refl waiting c.in_ok-add_growing-in-Forward.ensures

pub returns-in_ok-add_from_last-in-Backward : goal.returns-in_ok-add_from_last-in-Backward
returns-in_ok-add_from_last-in-Backward g c =
    let name = c.args.name.now in
    let chunks = c.args.chunks.now in
    let mid = c.add_growing-in-Backward.new.self in
    let waiting = subst (λ l. Adds (map (found_of name) (entries_of_all l)) mid c.add_from_last.new.self) c.waiting_chunks-in-Backward.ensures c.in_ok-add_from_last-in-Backward.ensures in
    adds_previous name (entries_growing chunks.growing) (entries_of_all chunks.waiting) (entries_in_memory chunks) c.args.self.now mid c.add_from_last.new.self refl c.in_ok-add_growing-in-Backward.ensures waiting
