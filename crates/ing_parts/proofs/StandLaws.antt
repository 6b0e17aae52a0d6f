-- Entries that stand for others in an answer.
use Rattle.std.proofs.Common.{cond, ◌==◌, ◌≡◌, ℕ, ◌+◌, ◌<◌, ◌≤◌, true, List, [], ◌∷◌, ◌++◌, append_assoc, append-nil, ap, sym, ◌∙◌, subst, arith}
use Rattle.std.specs.List.Sorted.{IsPermutation}
use Rattle.std.specs.Cmp.{IsStrictWeakOrder, IsTotalOrder}
use Rattle.std.specs.Cmp.Lexicographic.{slice_cmp}
use Rattle.std.specs.declared.cmp.Ordering.TheVariants.{Less, Equal, Greater}
use Rattle.std.specs.Ordering.{is_lt, nat_cmp, ordering_then, then_cmp, on}
use Rattle.std.proofs.lemmas.Bool.{lt-ltb}
use Rattle.std.proofs.lemmas.Cmp.{nat_cmp_total, nat_list_cmp_total, on_total, then_total}
use Rattle.std.proofs.lemmas.List.Sums.{sum_by-append}
use Rattle.std.proofs.lemmas.List.Sorted.{ranks_by, IsStrictWeakOrder-flip, IsPermutation-sym, IsPermutation-trans, IsPermutation-cons, IsPermutation-middle, IsPermutation-append_left, sum_by-IsPermutation}
use Rattle.ing_parts.specs.declared.found.Found.{Found}
use Rattle.ing_rows.specs.declared.order.Order.{Order}
use Rattle.ing_rows.specs.declared.order.Order.TheVariants.{Forward, Backward}
use Rattle.ing_parts.specs.Answers.{IsAnswer, StandFor, comes_first, precedes}
use Rattle.ing_parts.specs.Kept.{ahead}
use Rattle.ing_parts.proofs.Insertion.{first_are_same, inserted, inserts, sorted_inserted}

-- ---- the order of an answer

pub total : IsTotalOrder (then_cmp (on (λ (f : Found). f.entry.stamp) nat_cmp) (then_cmp (on (λ (f : Found). f.name) (slice_cmp nat_cmp)) (on (λ (f : Found). f.number) nat_cmp)))
total = then_total (on_total (λ (f : Found). f.entry.stamp) nat_cmp_total) (then_total (on_total (λ (f : Found). f.name) nat_list_cmp_total) (on_total (λ (f : Found). f.number) nat_cmp_total))

first_is_order : IsStrictWeakOrder comes_first
first_is_order = ranks_by total (λ f. f)

pub precedes_is_order : (order : Order) → IsStrictWeakOrder (precedes order)
precedes_is_order Forward = first_is_order
precedes_is_order Backward = IsStrictWeakOrder-flip comes_first first_is_order

pub is_first : (f g : Found) → f.entry.stamp < g.entry.stamp → comes_first f g ≡ true
is_first f g h = ap (λ b. is_lt (ordering_then (cond b Less (cond (f.entry.stamp == g.entry.stamp) Equal Greater)) (ordering_then (slice_cmp nat_cmp f.name g.name) (nat_cmp f.number g.number)))) (lt-ltb f.entry.stamp g.entry.stamp h)

-- ---- answers

-- the answer does not depend on where entries stand
pub permuted : (order : Order) (limit : ℕ) (xs ys answer : List Found) → IsPermutation xs ys → IsAnswer order limit ys answer → IsAnswer order limit xs answer
permuted order limit xs ys answer same h = record {
  sorted = h.sorted;
  same = IsPermutation-trans xs ys h.sorted same h.same;
  in_order = h.in_order;
  cut = h.cut;
}

module _ (order : Order) (limit : ℕ) where
  pub stand_alike : (xs ys : List Found) → IsPermutation xs ys → StandFor order limit xs ys
  stand_alike xs ys same others answer h = permuted order limit (ys ++ others) (xs ++ others) answer (IsPermutation-append_left others ys xs (IsPermutation-sym xs ys same)) h

  pub stand_still : (xs : List Found) → StandFor order limit xs xs
  stand_still xs others answer h = h

  pub stand_through : (xs ys zs : List Found) → StandFor order limit xs ys → StandFor order limit ys zs → StandFor order limit xs zs
  stand_through xs ys zs a b others answer h = b others answer (a others answer h)

  -- side by side
  pub stand_beside : (xs ys us : List Found) → StandFor order limit xs ys → StandFor order limit (xs ++ us) (ys ++ us)
  stand_beside xs ys us a others answer h =
      subst (λ l. IsAnswer order limit l answer) (sym (append_assoc ys us others))
      (a (us ++ others) answer (subst (λ l. IsAnswer order limit l answer) (append_assoc xs us others) h))

  -- one more, ahead of which enough stand
  pub stand_ahead : (xs : List Found) (f : Found) → limit ≤ ahead (precedes order) f xs → StandFor order limit xs (xs ++ f ∷ [])
  stand_ahead xs f many others answer h =
      let lt = precedes order in
      let count : ahead lt f h.sorted ≡ ahead lt f (xs ++ others) = sum_by-IsPermutation (λ g. cond (lt f g) 0 1) (xs ++ others) h.sorted h.same in
      let parts : ahead lt f (xs ++ others) ≡ ahead lt f xs + ahead lt f others = sum_by-append (λ g. cond (lt f g) 0 1) xs others in
      record {
        sorted = inserted lt f h.sorted;
        same =
            subst (λ l. IsPermutation l (inserted lt f h.sorted)) (sym (append_assoc xs (f ∷ []) others))
            (IsPermutation-trans (xs ++ f ∷ others) (f ∷ (xs ++ others)) (inserted lt f h.sorted) (IsPermutation-middle xs f others)
            (IsPermutation-trans (f ∷ (xs ++ others)) (f ∷ h.sorted) (inserted lt f h.sorted) (IsPermutation-cons f (xs ++ others) h.sorted h.same) (inserts lt f h.sorted)));
        in_order = sorted_inserted lt (precedes_is_order order) f h.sorted h.in_order;
        cut = h.cut ∙ sym (first_are_same lt (precedes_is_order order) limit f h.sorted h.in_order (omega arith));
      }

  -- what stands for all has no other answer
  pub stand_answered : (xs ys answer : List Found) → StandFor order limit xs ys → IsAnswer order limit xs answer → IsAnswer order limit ys answer
  stand_answered xs ys answer a h =
      subst (λ l. IsAnswer order limit l answer) (append-nil ys) (a [] answer (subst (λ l. IsAnswer order limit l answer) (sym (append-nil xs)) h))
