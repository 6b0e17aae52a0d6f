use Rattle.std.proofs.Common.{refl, map, subst}
use Rattle.ing_chunk.specs.Chunks.{entries_of, in_blocks}
use Rattle.ing_parts.specs.Parts.{Adds, found_of}
use Rattle.ing_parts.proofs.RangeLaws.{adds_next, adds_previous}
use Rattle.ing_parts.proofs.snapshot.Snapshot.add_chunk.Goals as goal

pub returns-in_ok-add_head-in-Forward : goal.returns-in_ok-add_head-in-Forward
returns-in_ok-add_head-in-Forward g c =
    let name = c.args.name.now in
    let chunk = c.args.chunk.now in
    let mid = c.add_blocks_from_first.new.self in
    let blocks = subst (λ l. Adds (map (found_of name) (in_blocks l)) c.args.self.now mid) c.blocks-in-Forward.ensures c.in_ok-add_blocks_from_first-in-Forward.ensures in
    let head = subst (λ l. Adds (map (found_of name) l) mid c.add_head.new.self) c.head.ensures c.in_ok-add_head-in-Forward.ensures in
    adds_next name (in_blocks chunk.blocks) chunk.head (entries_of chunk) c.args.self.now mid c.add_head.new.self refl blocks head

pub returns-in_ok-add_blocks_from_last-in-Backward : goal.returns-in_ok-add_blocks_from_last-in-Backward
returns-in_ok-add_blocks_from_last-in-Backward g c =
    let name = c.args.name.now in
    let chunk = c.args.chunk.now in
    let mid = c.add_head-in-Backward.new.self in
    let head = subst (λ l. Adds (map (found_of name) l) c.args.self.now mid) c.head-in-Backward.ensures c.in_ok-add_head-in-Backward.ensures in
    let blocks = subst (λ l. Adds (map (found_of name) (in_blocks l)) mid c.add_blocks_from_last.new.self) c.blocks-in-Backward.ensures c.in_ok-add_blocks_from_last-in-Backward.ensures in
    adds_previous name chunk.head (in_blocks chunk.blocks) (entries_of chunk) c.args.self.now mid c.add_blocks_from_last.new.self refl head blocks
