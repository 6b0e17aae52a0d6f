-- Of entries in order those of a range of stamps stand together.
use Rattle.std.proofs.Common.{◌≡◌, ℕ, suc, zero, ◌+◌, ◌-◌, ◌≤◌, Bool, true, false, refl, List, [], ◌∷◌, length, filter, take, drop, get_or, max, cond, ap, ◌∙◌, arith}
use Rattle.std.specs.List.{AllWithin, between}
use Rattle.std.specs.List.Sorted.{IsNonDecreasingBy, IsPartitionPoint}
use Rattle.std.proofs.Math.Dec.{ltb}
use Rattle.std.proofs.lemmas.Bool.Decides.{nat_tests}
use Rattle.std.proofs.lemmas.List.Sorted.{sorted_far}
use Rattle.ing_chunk.specs.declared.numbered.Numbered.{Numbered}
use Rattle.ing_chunk.specs.Chunks.{AreInOrder, comes_before, is_between}
use Rattle.ing_chunk.proofs.Ordered.{is_order, not_later}

-- in entries in order stamps do not fall
pub stamps_rise : (es : List Numbered) → AreInOrder es → IsNonDecreasingBy (λ e. e.entry.stamp) es
stamps_rise es up i j d le lt = not_later (get_or es i d) (get_or es j d) (sorted_far comes_before is_order es up i j d le lt)

abbrev kept_or_not : (Numbered → Bool) → Numbered → List Numbered → Bool → List Numbered
kept_or_not p e es b = cond b (e ∷ filter p es) (filter p es)

-- a test that holds of so many from one place on, and of no other
run_of : (p : Numbered → Bool) (es : List Numbered) (i n : ℕ) → i + n ≤ length es → AllWithin (λ e. p e ≡ false) es 0 i → AllWithin (λ e. p e ≡ true) es i (i + n) → AllWithin (λ e. p e ≡ false) es (i + n) (length es)
    → filter p es ≡ take n (drop i es)
run_of p [] zero zero within low mid high = refl
run_of p [] zero (suc n) within low mid high = absurd (omega arith)
run_of p [] (suc i) n within low mid high = absurd (omega arith)
run_of p (e ∷ es) zero zero within low mid high =
    ap (kept_or_not p e es) (high 0 e (omega arith) (omega arith))
    ∙ run_of p es zero zero (omega arith) (λ k d a b. absurd (omega arith)) (λ k d a b. absurd (omega arith)) (λ k d a b. high (suc k) d (omega arith) (omega arith))
run_of p (e ∷ es) zero (suc n) within low mid high =
    ap (kept_or_not p e es) (mid 0 e (omega arith) (omega arith))
    ∙ ap (λ l. e ∷ l) (run_of p es zero n (omega arith) (λ k d a b. absurd (omega arith)) (λ k d a b. mid (suc k) d (omega arith) (omega arith)) (λ k d a b. high (suc k) d (omega arith) (omega arith)))
run_of p (e ∷ es) (suc i) n within low mid high =
    ap (kept_or_not p e es) (low 0 e (omega arith) (omega arith))
    ∙ run_of p es i n (omega arith) (λ k d a b. low (suc k) d (omega arith) (omega arith)) (λ k d a b. mid (suc k) d (omega arith) (omega arith)) (λ k d a b. high (suc k) d (omega arith) (omega arith))

-- the places of the first stamp that is at least the start, and of the first that is at least the end
pub between_places : (start end : ℕ) (es : List Numbered) (first behind : ℕ) → first ≤ length es → behind ≤ length es
    → IsPartitionPoint (λ e. ltb e.entry.stamp start ≡ true) (λ e. ltb e.entry.stamp start ≡ false) es first
    → IsPartitionPoint (λ e. ltb e.entry.stamp end ≡ true) (λ e. ltb e.entry.stamp end ≡ false) es behind
    → filter (is_between start end) es ≡ between first (max behind first) es
between_places start end es first behind within inside from upto =
    run_of (is_between start end) es first (max behind first - first) (omega arith)
    (λ k d a b. let at = from.0 k d a b in grind (arith, nat_tests, at))
    (λ k d a b. let at = from.1 k d a (omega arith) in let to = upto.0 k d (omega arith) (omega arith) in grind (arith, nat_tests, at, to))
    (λ k d a b. let at = upto.1 k d (omega arith) b in grind (arith, nat_tests, at))
