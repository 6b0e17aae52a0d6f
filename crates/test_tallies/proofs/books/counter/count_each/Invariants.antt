use Rattle.std.proofs.Common.{◌≡◌}
use Rattle.test_tallies.proofs.books.counter.count_each.Given as goal

abbrev pub invariant-loop-n : goal.invariant-loop-n
invariant-loop-n g l = l.mine ≡ record { book = l.fn.mine.book; amount = l.told }
