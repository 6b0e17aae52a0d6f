use Rattle.std.proofs.Common.{◌≡◌, ◌+◌, ◌≤◌, ◌<◌, ◌^◌, length, vec_len}
use Rattle.std.specs.Vec.{vec_capacity}
use Rattle.std.specs.Vec.Iter.{into_iter_items, into_iter_len}
use Rattle.ing_node.proofs.ingester.Ingester.of_shards.Given as goal

abbrev pub invariant-loop-held : goal.invariant-loop-held
invariant-loop-held g l = record {
  whole : into_iter_len l.held-iterator ≡ length (into_iter_items l.held-iterator);
  made : vec_len l.locks + into_iter_len l.held-iterator ≡ g.N.NodeName.settings.shards;
  some : 0 < vec_len l.locks + into_iter_len l.held-iterator;
  few : vec_len l.locks + into_iter_len l.held-iterator < 2 ^ 32;
  room : vec_len l.locks + into_iter_len l.held-iterator ≤ vec_capacity l.locks;
}
