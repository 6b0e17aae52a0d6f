use Rattle.std.proofs.Common.{◌≡◌, ◌∙◌, ap, arith, sym}
use Rattle.std.proofs.lemmas.List.Sorted.{IsPermutation-sym, length_permutation}
use Rattle.ing_rows.specs.Rows.{Row, is_in_flight, is_stored}
use Rattle.ing_shard.specs.Books.{BookStates}
use Rattle.ing_shard.proofs.CountLaws.{reordered}
use Rattle.ing_shard.proofs.shard.Shard.gather_books.Goals as goal

pub returns-clause-stored : goal.returns-clause-stored
returns-clause-stored g c = λ state stands. (
  c.total_of-2.ensures.number ∙ ap (λ (b : BookStates). b.stored.number) c.into_closed-shard.ensures.books ∙ c.totals.ensures.books.stored
      ∙ reordered (λ (r : Row). is_stored r.place) c.args.self.state.rows state.rows stands.rows,
  c.total_of-2.ensures.sum,
)

-- a share for each chunk in flight would be out
pub returns-clause-landed : goal.returns-clause-landed
returns-clause-landed g c = λ state stands.
    let told = c.missing-missing.ensures.flight in
    let none = c.if-missing-gt0-2.false in
    let out : c.args.self.books.flight.out ≡ 0 = omega (arith, told, none) in
    reordered (λ (r : Row). is_in_flight r.place) state.rows c.args.self.state.rows (IsPermutation-sym c.args.self.state.rows state.rows stands.rows)
    ∙ c.totals.ensures.books.landed (sym c.totals.ensures.books.out ∙ out)

pub returns-clause-accepted : goal.returns-clause-accepted
returns-clause-accepted g c = λ state stands. (
  c.total_of.ensures.number ∙ ap (λ (b : BookStates). b.accepted.number) c.into_closed-shard.ensures.books ∙ c.totals.ensures.books.accepted
      ∙ sym (length_permutation c.args.self.state.rows state.rows stands.rows),
  c.total_of.ensures.sum,
)
