use Rattle.std.proofs.Common.{◌≡◌, ◌+◌, ◌++◌, ◌≤◌, ℕ, Some, length, slice_get, vec_len}
use Rattle.std.specs.Global.{Vec}
use Rattle.std.specs.Vec.{vec_capacity}
use Rattle.ing_tally.specs.Books.{ShareState}
use Rattle.ing_node.specs.Closing.{HaveRoom, one_at, shares_at}
use Rattle.ing_node.proofs.gathering.hand_out_told.Given as goal

-- the share of a place stands in its list, or is still to come, and there is room for it
abbrev pub invariant-loop-last : goal.invariant-loop-last
invariant-loop-last l = record {
  handed : (i : ℕ) → shares_at i l.lists.items ++ one_at i l.told.items ≡ shares_at i l.initial.lists.items ++ one_at i l.initial.told.items;
  count : vec_len l.lists ≡ vec_len l.initial.lists;
  all : vec_len l.told ≤ vec_len l.lists;
  room : (n : ℕ) → HaveRoom (n + 1) l.initial.lists.items → (i : ℕ) (list : Vec ShareState) → slice_get l.lists.items i ≡ Some list
      → vec_len list + length (one_at i l.told.items) + n ≤ vec_capacity list;
}

abbrev pub decreases-loop-last : goal.decreases-loop-last
decreases-loop-last l = vec_len l.told
