use Rattle.std.proofs.Common.{◌≡◌, ℕ, [], vec_len}
use Rattle.ing_node.specs.Closing.{shares_at}
use Rattle.ing_node.proofs.gathering.let_go.Given as goal

abbrev pub invariant-loop-list : goal.invariant-loop-list
invariant-loop-list l = record {
  empty : (i : ℕ) → shares_at i l.lists.items ≡ [];
}

abbrev pub decreases-loop-list : goal.decreases-loop-list
decreases-loop-list l = vec_len l.lists
