use Rattle.std.proofs.Common.{◌≡◌, ◌+◌, ◌<◌, ℕ, length, vec_len}
use Rattle.std.specs.Prelude.{sum_by}
use Rattle.ing_tally.specs.Books.{AreOf, amount_of}
use Rattle.ing_flush.specs.Tallies.{amount_at}
use Rattle.ing_node.specs.Closing.{HaveRoom, shares_at}
use Rattle.ing_node.proofs.gathering.hand_out_pushers.Given as goal

-- what stands in the lists and what is to come is all
abbrev pub invariant-loop-pusher : goal.invariant-loop-pusher
invariant-loop-pusher g l = record {
  all : vec_len l.lists ≡ g.N.NodeName.settings.shards;
  room : HaveRoom (vec_len l.pushers) l.lists.items;
  more : (n : ℕ) → HaveRoom (vec_len l.initial.pushers + n) l.initial.lists.items → HaveRoom (vec_len l.pushers + n) l.lists.items;
  own : (i : ℕ) → AreOf (g.N.NodeName.books i).accepted (shares_at i l.lists.items);
  count : (i : ℕ) → i < g.N.NodeName.settings.shards → length (shares_at i l.lists.items) + vec_len l.pushers ≡ vec_len l.initial.pushers;
  sum : (i : ℕ) → amount_of (shares_at i l.lists.items) + sum_by (λ p. amount_at i p.told) l.pushers.items ≡ sum_by (λ p. amount_at i p.told) l.initial.pushers.items;
}

abbrev pub decreases-loop-pusher : goal.decreases-loop-pusher
decreases-loop-pusher g l = vec_len l.pushers
