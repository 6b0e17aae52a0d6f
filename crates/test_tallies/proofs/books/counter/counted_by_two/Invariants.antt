use Rattle.test_tallies.proofs.books.counter.counted_by_two.Given as goal

-- the book that was just opened
abbrev pub ghosts-count_by_two : goal.ghosts-count_by_two
ghosts-count_by_two g a = record { book = a.book.name }
