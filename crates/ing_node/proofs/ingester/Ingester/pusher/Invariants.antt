use Rattle.std.proofs.Common.{◌≡◌, ◌≤◌, vec_len}
use Rattle.std.specs.Prelude.{All}
use Rattle.std.specs.Vec.{vec_capacity}
use Rattle.ing_node.specs.Names.{AreAcceptedIn}
use Rattle.ing_node.proofs.ingester.Ingester.pusher.Given as goal

abbrev pub invariant-loop-place : goal.invariant-loop-place
invariant-loop-place g l = record {
  own : AreAcceptedIn g.N.NodeName.books l.told.items;
  zero : All (λ s. s.amount ≡ 0) l.told.items;
  made : vec_len l.told ≡ l.place;
  room : vec_len l.self.shards ≤ vec_capacity l.told;
}
