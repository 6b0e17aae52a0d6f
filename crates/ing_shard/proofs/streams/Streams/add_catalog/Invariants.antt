use Rattle.std.proofs.Common.{map, take}
use Rattle.ing_shard.specs.Catalog.{asked_view}
use Rattle.ing_shard.specs.Streams.{key_of, whole}
use Rattle.ing_shard.proofs.TellLaws.{AddsFirst}
use Rattle.ing_shard.proofs.streams.Streams.add_catalog.Given as goal

-- what the first streams tell is added
abbrev pub invariant-loop-number : goal.invariant-loop-number
invariant-loop-number g l = AddsFirst (asked_view l.asked) (whole l.self.list.items).rows (take l.number (map key_of l.self.list.items)) l.initial.texts l.texts
