use Rattle.std.proofs.Common.{◌≡◌, ◌+◌, vec_len}
use Rattle.std.specs.Prelude.{All}
use Rattle.ing_tally.specs.Books.{AreOf}
use Rattle.test_tallies.proofs.books.walks.merge_each.Given as goal

abbrev pub invariant-loop-share : goal.invariant-loop-share
invariant-loop-share l = record {
  ours : AreOf l.book.name l.shares.items;
  zero : All (λ s. s.amount ≡ 0) l.shares.items;
  name : l.book.name ≡ l.fn.book.name;
  number : l.book.number ≡ l.fn.book.number;
  out : l.book.out + vec_len l.initial.shares ≡ l.fn.book.out + vec_len l.shares;
}

abbrev pub decreases-loop-share : goal.decreases-loop-share
decreases-loop-share l = vec_len l.shares
