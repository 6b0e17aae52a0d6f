use Rattle.std.proofs.Common.{◌≡◌, ◌<◌, ℕ, Some, slice_get, take}
use Rattle.ing_node.specs.Closing.{AreMissing, IsComplete}
use Rattle.ing_node.proofs.closing.are_complete.Given as goal

-- where nothing is missing so far, the shards so far are complete; what is missing so far is of them
abbrev pub invariant-loop-place : goal.invariant-loop-place
invariant-loop-place g l = record {
  complete : l.all.accepted ≡ 0 → l.all.flight ≡ 0 → l.all.stored ≡ 0 → (i : ℕ) (held : _) → i < l.place
      → slice_get l.helds i ≡ Some held → IsComplete i l.pushers l.tallies held.shard.memory;
  missing : AreMissing (λ held. held.shard.memory) l.pushers l.tallies (take l.place l.helds) l.all.accepted l.all.flight l.all.stored;
}
