-- What the rounds of several workers come to.
use Rattle.std.proofs.Common.{◌≡◌, ◌<◌, ◌≤◌, ◌+◌, ℕ, suc, List, [], ◌∷◌, length, slice_index_or, arith}
use Rattle.std.specs.Prelude.{sum_by}
use Rattle.std.specs.List.{AllZip}
use Rattle.std.proofs.lemmas.List.Sums.{sum_by-cons}
use Rattle.ing_tally.specs.Books.{amount_of}
use Rattle.ing_flush.specs.Rounds.{IsRound, WorkerState}

-- what holds of the items at each place holds of the lists
pub zip_of : {W : Type 0} (P : W → W → Type 0) (olds news : List W) → length news ≡ length olds
    → ((i : ℕ) (d : W) → i < length olds → P (slice_index_or olds i d) (slice_index_or news i d)) → AllZip P olds news
zip_of P [] [] long each = tt
zip_of P [] (new ∷ news) long each = absurd (omega (arith, long))
zip_of P (old ∷ olds) [] long each = absurd (omega (arith, long))
zip_of P (old ∷ olds) (new ∷ news) long each =
    (each 0 old (omega arith), zip_of P olds news (omega (arith, long)) (λ i d below. each (suc i) d (omega (arith, below))))

module _ {W : Type 0} (seen : W → WorkerState) where
  -- all shares together rise by an entry at least for each chunk that was stored
  pub all_rose : (olds news : List W) → AllZip (λ (old new : W). IsRound (seen old) (seen new)) olds news
      → sum_by (λ (w : W). amount_of (seen w).tally) olds + sum_by (λ (w : W). (seen w).round.stored) news ≤ sum_by (λ (w : W). amount_of (seen w).tally) news
  all_rose [] [] rounds = omega arith
  all_rose [] (new ∷ news) rounds = absurd rounds
  all_rose (old ∷ olds) [] rounds = absurd rounds
  all_rose (old ∷ olds) (new ∷ news) rounds =
      let rest = all_rose olds news rounds.1 in
      let here = rounds.0.stored.all in
      omega (arith, rest, here, sum_by-cons (λ (w : W). amount_of (seen w).tally) old olds, sum_by-cons (λ (w : W). amount_of (seen w).tally) new news, sum_by-cons (λ (w : W). (seen w).round.stored) new news)

  -- and none rises where none was stored
  pub none_rose : (olds news : List W) → AllZip (λ (old new : W). IsRound (seen old) (seen new)) olds news
      → sum_by (λ (w : W). (seen w).round.stored) news ≡ 0 → AllZip (λ (old new : W). (seen new).tally ≡ (seen old).tally) olds news
  none_rose [] [] rounds none = tt
  none_rose [] (new ∷ news) rounds none = absurd rounds
  none_rose (old ∷ olds) [] rounds none = absurd rounds
  none_rose (old ∷ olds) (new ∷ news) rounds none =
      let sum = sum_by-cons (λ (w : W). (seen w).round.stored) new news in
      (rounds.0.stored.none (omega (arith, sum, none)), none_rose olds news rounds.1 (omega (arith, sum, none)))
