use Rattle.std.proofs.Common.{◌≡◌, ◌+◌, ◌≤◌, vec_len}
use Rattle.std.specs.Prelude.{All}
use Rattle.std.specs.Vec.{vec_capacity}
use Rattle.ing_tally.specs.Books.{AreOf}
use Rattle.test_tallies.proofs.books.walks.issue_each.Given as goal

abbrev pub invariant-loop : goal.invariant-loop
invariant-loop l = record {
  ours : AreOf l.fn.book.name l.shares.items;
  empty : All (λ s. s.amount ≡ 0) l.shares.items;
  name : l.book.name ≡ l.fn.book.name;
  number : l.book.number ≡ l.fn.book.number;
  out : l.book.out ≡ l.fn.book.out + l.counter;
  made : vec_len l.shares ≡ l.counter;
  room : l.count ≤ vec_capacity l.shares;
}
