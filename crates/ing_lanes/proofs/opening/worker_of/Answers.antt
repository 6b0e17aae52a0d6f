use Rattle.std.proofs.Common.{◌∙◌, ◌++◌, ◌∷◌, [], ap, arith}
use Rattle.std.proofs.lemmas.List.Sums.{sum_by-cons}
use Rattle.ing_tally.specs.Books.{amount_of}
use Rattle.ing_lanes.specs.Counted.{counted_by}
use Rattle.ing_lanes.proofs.CountLaws.{none_counted}
use Rattle.ing_lanes.proofs.opening.worker_of.Goals as goal

-- it has counted nothing
pub returns-in-Ok-clause-none : goal.returns-in-Ok-clause-none
returns-in-Ok-clause-none g c =
    let worker = c.in-Ok.worker in
    let one = c.push_reserved.ensures.items ∙ ap (λ l. l ++ worker ∷ []) c.in_ok-workers.ensures.items in
    omega (arith, ap counted_by one, sum_by-cons (λ w. amount_of w.flusher.tally) worker [], none_counted worker.flusher.tally c.in-Ok.ensures.zero)
