use Rattle.std.proofs.Common.{◌≡◌, ◌≤◌, vec_len}
use Rattle.std.specs.Prelude.{All}
use Rattle.std.specs.Vec.{vec_capacity}
use Rattle.ing_flush.specs.Tallies.{AreStoredIn}
use Rattle.ing_node.proofs.ingester.Ingester.tally.Given as goal

abbrev pub invariant-loop-place : goal.invariant-loop-place
invariant-loop-place g l = record {
  own : AreStoredIn g.N.NodeName.books l.shares.items;
  zero : All (λ s. s.amount ≡ 0) l.shares.items;
  made : vec_len l.shares ≡ l.place;
  room : vec_len l.self.shards ≤ vec_capacity l.shares;
}
