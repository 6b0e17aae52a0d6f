use Rattle.std.proofs.Common.{take}
use Rattle.ing_parts.specs.Parts.{AddsRows}
use Rattle.ing_shard.specs.Snapshots.{rows_at}
use Rattle.ing_shard.proofs.streams.Streams.add_streams.Given as goal

-- the streams of the numbers so far are added
abbrev pub invariant-loop-number : goal.invariant-loop-number
invariant-loop-number g l = AddsRows (rows_at l.self.list.items (take l.number-index l.numbers)) l.fn.snapshot l.snapshot
