-- Counts of failures of the ends of one store, taken together.
use Rattle.std.specs.Prelude.{Bool, IfOk, ◌==◌, false, true}
use Rattle.std.proofs.Common.{◌≡◌, ◌∙◌, ◌⊎◌, ⊎_elim, ℕ, zero, suc, ◌+◌, ◌-◌, ◌^◌, ◌<◌, ◌≤◌, List, [], ◌∷◌, length, get_or, sum_by, map, All, Result, Ok, Err, ap, arith, inl, inr, refl, sym, subst}
use Rattle.std.proofs.lemmas.Bool.{cases_lt}
use Rattle.std.proofs.lemmas.List.Sums.{sum_by-cons}
use Rattle.std.proofs.lemmas.List.{get_or-map, length-map}
use Rattle.std.proofs.lemmas.List.Elements.{All-cons, All-head, All-map, All-nil, All-tail}
use Rattle.ing_store.specs.StoreFaults.{IsCounted}
use Rattle.ing_store.specs.declared.fault.StoreFault.{StoreFault}
use Rattle.ing_store.specs.declared.fault.StoreFault.TheVariants.{NoMemory, Failed, Damaged}
use Rattle.ing_session.specs.Causes.{HaveCause, GoesOn}
use Rattle.ing_session.proofs.CausesLaws.{one_failure, same_count}
use Rattle.ing_service.specs.Ends.{failed_by, up_to_last}

-- a count that is told up to its last value has the causes of what it tells
pub told_cause : (before after failed : ℕ) → HaveCause before after failed → HaveCause (up_to_last before) (up_to_last after) failed
told_cause before after failed (risen, inl counted) = (
  omega (arith, risen),
  ⊎_elim (λ less. inl (omega (arith, counted, less))) (λ more. inr (omega (arith, more))) (cases_lt after (2 ^ 64 - 1)),
)
told_cause before after failed (risen, inr last) = (omega (arith, risen), inr (omega (arith, last)))

pub told_risen : (before after : ℕ) → before ≤ after → up_to_last before ≤ up_to_last after
told_risen before after risen = omega (arith, risen)

-- and has failed where one of them has
has_failed : (before after others : ℕ) → before ≤ after → (before < after) ⊎ (before + 1 ≡ 2 ^ 64)
    → (up_to_last (before + others) < up_to_last (after + others)) ⊎ (up_to_last (before + others) + 1 ≡ 2 ^ 64)
has_failed before after others risen (inl less) =
    ⊎_elim (λ below. inl (omega (arith, less, below))) (λ last. inr (omega (arith, last))) (cases_lt (before + others) (2 ^ 64 - 1))
has_failed before after others risen (inr last) = inr (omega (arith, last))

pub counted_too : {T : Type 0} (before after others : ℕ) (r : Result T StoreFault) → IsCounted before after r → IsCounted (up_to_last (before + others)) (up_to_last (after + others)) r
counted_too before after others (Ok x) same = ap (λ n. up_to_last (n + others)) same
counted_too before after others (Err NoMemory) same = ap (λ n. up_to_last (n + others)) same
counted_too before after others (Err Failed) both = (omega (arith, both.0), has_failed before after others both.0 both.1)
counted_too before after others (Err Damaged) both = (omega (arith, both.0), has_failed before after others both.0 both.1)

-- an answer of an end lets its count not fall
pub counted_risen : {T : Type 0} (before after : ℕ) (r : Result T StoreFault) → IsCounted before after r → before ≤ after
counted_risen before after (Ok x) same = omega (arith, same)
counted_risen before after (Err NoMemory) same = omega (arith, same)
counted_risen before after (Err Failed) both = both.0
counted_risen before after (Err Damaged) both = both.0

-- an upload that failed has a cause
pub upload_cause : {T : Type 0} (before after : ℕ) (r : Result T StoreFault) → IsCounted before after r → HaveCause before after (failed_by r)
upload_cause before after (Ok x) same = same_count before after same
upload_cause before after (Err NoMemory) same = (omega (arith, same), inl (omega (arith, same)))
upload_cause before after (Err Failed) both = one_failure before after both.0 both.1
upload_cause before after (Err Damaged) both = one_failure before after both.0 both.1

-- of fewer failures too
pub fewer_causes : (before after failed fewer : ℕ) → fewer ≤ failed → HaveCause before after failed → HaveCause before after fewer
fewer_causes before after failed fewer less (risen, inl counted) = (risen, inl (omega (arith, counted, less)))
fewer_causes before after failed fewer less (risen, inr last) = (risen, inr last)

-- of two counts beside each other
pub both_causes : (a b c d n m : ℕ) → HaveCause a b n → HaveCause c d m → HaveCause (a + c) (b + d) (n + m)
both_causes a b c d n m (risen, inl counted) (more, inl next) = (omega (arith, risen, more), inl (omega (arith, counted, next)))
both_causes a b c d n m (risen, inl counted) (more, inr last) = (omega (arith, risen, more), inr (omega (arith, last)))
both_causes a b c d n m (risen, inr last) (more, next) = (omega (arith, risen, more), inr (omega (arith, last)))

-- ---- workers, one after another

module _ {W : Type 0} (count failed : W → ℕ) where
  pub all_causes : (olds news : List W) → length news ≡ length olds → ((i : ℕ) (d : W) → i < length olds → HaveCause (count (get_or olds i d)) (count (get_or news i d)) (failed (get_or news i d)))
      → HaveCause (sum_by count olds) (sum_by count news) (sum_by failed news)
  all_causes [] [] same each = (omega arith, inl (omega arith))
  all_causes [] (w ∷ ws) same each = absurd (omega (arith, same))
  all_causes (o ∷ os) [] same each = absurd (omega (arith, same))
  all_causes (o ∷ os) (w ∷ ws) same each =
      rw (sum_by-cons count o os, sum_by-cons count w ws, sum_by-cons failed w ws)
      (both_causes (count o) (count w) (sum_by count os) (sum_by count ws) (failed w) (sum_by failed ws) (each 0 o (omega arith))
      (all_causes os ws (omega (arith, same)) (λ i d lt. each (suc i) d (omega (arith, lt)))))

module _ {W : Type 0} (never : W → Type 0) (count : W → ℕ) where
  pub all_go_on : (olds news : List W) → length news ≡ length olds → ((i : ℕ) (d : W) → i < length olds → GoesOn never count (get_or olds i d) (get_or news i d))
      → GoesOn (All never) (sum_by count) olds news
  all_go_on [] [] same each = (omega arith, λ sure. (All-nil never, refl))
  all_go_on [] (w ∷ ws) same each = absurd (omega (arith, same))
  all_go_on (o ∷ os) [] same each = absurd (omega (arith, same))
  all_go_on (o ∷ os) (w ∷ ws) same each =
      let one = each 0 o (omega arith) in
      let rest = all_go_on os ws (omega (arith, same)) (λ i d lt. each (suc i) d (omega (arith, lt))) in (
        omega (arith, sum_by-cons count o os, sum_by-cons count w ws, one.0, rest.0),
        λ sure. (
            let here = one.1 (All-head never o os sure) in
            let there = rest.1 (All-tail never o os sure) in (
              All-cons never w ws here.0 there.0,
              sum_by-cons count w ws ∙ ap (λ n. n + sum_by count ws) here.1 ∙ ap (λ n. count o + n) there.1 ∙ sym (sum_by-cons count o os),
            )
            ),
      )

-- a sum over what a list is made to
pub sum_by_made : {X Y : Type 0} (f : X → Y) (g : Y → ℕ) (xs : List X) → sum_by (λ x. g (f x)) xs ≡ sum_by g (map f xs)
sum_by_made f g [] = refl
sum_by_made f g (x ∷ xs) = sum_by-cons (λ x. g (f x)) x xs ∙ ap (λ n. g (f x) + n) (sum_by_made f g xs) ∙ sym (sum_by-cons g (f x) (map f xs))

-- and a property of each element of it
all_made : {X Y : Type 0} (f : X → Y) (P : Y → Type 0) (xs : List X) → All P (map f xs) → All (λ x. P (f x)) xs
all_made f P xs all i d lt = subst P (get_or-map f xs i d (f d) lt) (all i (f d) (subst (λ n. i < n) (sym (length-map xs f)) lt))

-- Workers with the same ends count and stay alike.
module _ {W E : Type 0} (end_of : W → E) (never : E → Type 0) (count : E → ℕ) where
  pub same_sum : (ws vs : List W) → map end_of vs ≡ map end_of ws → sum_by (λ w. count (end_of w)) vs ≡ sum_by (λ w. count (end_of w)) ws
  same_sum ws vs same = sum_by_made end_of count vs ∙ ap (sum_by count) same ∙ sym (sum_by_made end_of count ws)

  pub ends_go_on : (olds ws vs : List W) → map end_of vs ≡ map end_of ws → GoesOn (All (λ w. never (end_of w))) (sum_by (λ w. count (end_of w))) olds ws
      → GoesOn (All (λ w. never (end_of w))) (sum_by (λ w. count (end_of w))) olds vs
  ends_go_on olds ws vs same goes = (
    omega (arith, goes.0, same_sum ws vs same),
    λ sure. (
        let last = goes.1 sure in (
          all_made end_of never vs (subst (All never) (sym same) (All-map never end_of ws last.0)),
          same_sum ws vs same ∙ last.1,
        )
        ),
  )

-- what is not empty has something
pub some_left : (n : ℕ) {empty : Bool} → empty ≡ (n == 0) → empty ≡ false → 0 < n
some_left zero is not = absurd (let no : true ≡ false = sym is ∙ not in cc)
some_left (suc n) is not = omega arith

-- ---- a thread's own end and others, together

-- each has the causes of what failed through it
pub told_together : (a b c d n m : ℕ) → HaveCause a b n → HaveCause c d m → (all : ℕ) → all ≤ n + m → HaveCause (up_to_last (a + c)) (up_to_last (b + d)) all
told_together a b c d n m first second all few = told_cause (a + c) (b + d) all (fewer_causes (a + c) (b + d) (n + m) all few (both_causes a b c d n m first second))

-- of all that failed, where that is known
pub all_told : {T E : Type 0} (lost : T → ℕ) (a b c d m : ℕ) (r : Result T E) → HaveCause c d m → IfOk r (λ x. (more : ℕ) × (lost x ≤ m + more) × HaveCause a b more)
    → IfOk r (λ x. HaveCause (up_to_last (a + c)) (up_to_last (b + d)) (lost x))
all_told lost a b c d m (Err e) second said = tt
all_told lost a b c d m (Ok x) second said = told_together a b c d said.0 m said.2 second (lost x) (omega (arith, said.1))
