use Rattle.ing_chunk.specs.Chunks.{in_blocks}
use Rattle.ing_parts.proofs.RangeLaws.{adds_none}
use Rattle.ing_parts.proofs.snapshot.Snapshot.add_stored.Goals as goal

pub returns-then-misses : goal.returns-then-misses
returns-then-misses g c =
    adds_none c.args.name.now (in_blocks c.args.listing.now.blocks) c.args.self.now (c.misses.ensures c.if-misses.true)
