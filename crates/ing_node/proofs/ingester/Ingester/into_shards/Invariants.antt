use Rattle.std.proofs.Common.{◌≡◌, ◌+◌, ◌≤◌, length, vec_len}
use Rattle.std.specs.Vec.{vec_capacity}
use Rattle.std.specs.Vec.Iter.{into_iter_items, into_iter_len}
use Rattle.ing_node.proofs.ingester.Ingester.into_shards.Given as goal

abbrev pub invariant-loop-lock : goal.invariant-loop-lock
invariant-loop-lock g l = record {
  whole : into_iter_len l.lock-iterator ≡ length (into_iter_items l.lock-iterator);
  made : vec_len l.helds + into_iter_len l.lock-iterator ≡ g.N.NodeName.settings.shards;
  room : vec_len l.helds + into_iter_len l.lock-iterator ≤ vec_capacity l.helds;
}
