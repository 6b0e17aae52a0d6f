use Rattle.std.proofs.Common.{◌≡◌, length}
use Rattle.std.specs.Vec.Iter.{into_iter_items, into_iter_len}
use Rattle.ing_parts.specs.Answers.{BestState, Offers}
use Rattle.ing_parts.proofs.best.Best.take_over.Given as goal

-- those that are left do the rest
abbrev pub invariant-loop-found : goal.invariant-loop-found
invariant-loop-found l = record {
  count : length (into_iter_items l.found-iterator) ≡ into_iter_len l.found-iterator;
  rest : (last : BestState) → Offers (into_iter_items l.found-iterator) l.self last → Offers l.fn.other.held l.fn.self last;
}
