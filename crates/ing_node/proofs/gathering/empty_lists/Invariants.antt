use Rattle.std.proofs.Common.{◌≡◌, ◌≤◌, ◌-◌, ℕ, [], vec_len}
use Rattle.std.specs.Vec.{vec_capacity}
use Rattle.ing_node.specs.Closing.{HaveRoom, shares_at}
use Rattle.ing_node.proofs.gathering.empty_lists.Given as goal

abbrev pub invariant-loop-alloc : goal.invariant-loop-alloc
invariant-loop-alloc l = record {
  empty : (i : ℕ) → shares_at i l.lists.items ≡ [];
  room : HaveRoom l.each l.lists.items;
  few : vec_len l.lists ≤ l.count;
  all : l.count ≤ vec_capacity l.lists;
}

abbrev pub decreases-loop-alloc : goal.decreases-loop-alloc
decreases-loop-alloc l = l.count - vec_len l.lists
