use Rattle.std.proofs.Common.{◌≡◌, ◌<◌, ℕ, Some, slice_get}
use Rattle.ing_diary.specs.Fronts.{rows_since}
use Rattle.ing_diary.specs.Notes.{AreNoted, HaveNotedPlaces}
use Rattle.ing_node.specs.Diaries.{notes_at}
use Rattle.ing_node.specs.Earlier.{had_at}
use Rattle.ing_node.proofs.settling.settle_all.Given as goal

-- what came to the shards so far was noted
abbrev pub invariant-loop-place : goal.invariant-loop-place
invariant-loop-place g l = record {
  settled : g.S.StoreEnd.is_honest → (i : ℕ) (held : _) → i < l.place → slice_get l.helds i ≡ Some held
      → AreNoted (rows_since (had_at g.N.NodeName.earlier i) held.shard.memory.state.rows) (notes_at g.N.NodeName.settings.shards i l.pushers);
  places : (i : ℕ) (held : _) → i < l.place → slice_get l.helds i ≡ Some held
      → HaveNotedPlaces (rows_since (had_at g.N.NodeName.earlier i) held.shard.memory.state.rows) (notes_at g.N.NodeName.settings.shards i l.pushers);
  count : g.S.StoreEnd.failure_count l.end ≡ g.S.StoreEnd.failure_count l.initial.end;
  sure : g.S.StoreEnd.never_fails l.initial.end → g.S.StoreEnd.never_fails l.end;
}
