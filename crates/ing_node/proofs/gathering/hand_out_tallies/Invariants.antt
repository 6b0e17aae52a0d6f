use Rattle.std.proofs.Common.{◌≡◌, ◌+◌, ◌<◌, ℕ, length, vec_len}
use Rattle.std.specs.Prelude.{All, sum_by}
use Rattle.ing_tally.specs.Books.{AreOf, amount_of}
use Rattle.ing_flush.specs.Tallies.{amount_at}
use Rattle.ing_node.specs.Names.{IsTallyOf}
use Rattle.ing_node.specs.Closing.{HaveRoom, shares_at}
use Rattle.ing_node.proofs.gathering.hand_out_tallies.Given as goal

-- what stands in the lists and what is to come is all
abbrev pub invariant-loop-tally : goal.invariant-loop-tally
invariant-loop-tally g l = record {
  all : vec_len l.lists ≡ g.N.NodeName.settings.shards;
  room : HaveRoom (vec_len l.tallies) l.lists.items;
  more : (n : ℕ) → HaveRoom (vec_len l.initial.tallies + n) l.initial.lists.items → HaveRoom (vec_len l.tallies + n) l.lists.items;
  own : (i : ℕ) → AreOf (g.N.NodeName.books i).stored (shares_at i l.lists.items);
  tallies : All (IsTallyOf g.N.NodeName.settings.shards g.N.NodeName.books) l.tallies.items;
  count : (i : ℕ) → i < g.N.NodeName.settings.shards → length (shares_at i l.lists.items) + vec_len l.tallies ≡ vec_len l.initial.tallies;
  sum : (i : ℕ) → amount_of (shares_at i l.lists.items) + sum_by (amount_at i) l.tallies.items ≡ sum_by (amount_at i) l.initial.tallies.items;
}

abbrev pub decreases-loop-tally : goal.decreases-loop-tally
decreases-loop-tally g l = vec_len l.tallies
