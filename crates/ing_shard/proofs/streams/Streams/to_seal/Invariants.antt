use Rattle.std.proofs.Common.{◌≡◌, ◌++◌, drop, take}
use Rattle.ing_limits.specs.Ranges.{rules_for}
use Rattle.ing_shard.specs.Sealing.{seals_among}
use Rattle.ing_shard.proofs.NamedLaws.{AreNamed}
use Rattle.ing_shard.proofs.streams.Streams.to_seal.Given as goal

-- the seals so far and those of the streams to come are all of them
abbrev pub invariant-loop-number : goal.invariant-loop-number
invariant-loop-number g l = record {
  seals : seals_among l.which (rules_for l.settings) l.self.list.items ≡ l.seals.items ++ seals_among l.which (rules_for l.settings) (drop l.number l.self.list.items);
  named : AreNamed l.which (rules_for l.settings) (take l.number l.self.list.items);
}
