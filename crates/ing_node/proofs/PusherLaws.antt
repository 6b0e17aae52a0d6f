-- One share of a pusher that is lent, and comes back.
use Rattle.std.proofs.Common.{◌≡◌, ◌≢◌, ◌<◌, ◌≤◌, ℕ, zero, suc, List, [], ◌∷◌, ◌++◌, length, Some, refl, ap, sym, subst, arith, slice_set}
use Rattle.std.specs.Prelude.{slice_get, slice_index_or}
use Rattle.ing_tally.specs.Books.{ShareState}
use Rattle.ing_begun.specs.Books.{BookNames}
use Rattle.ing_flush.specs.Tallies.{amount_at}
use Rattle.ing_node.specs.Names.{AreAcceptedIn}

-- the share at a place is of the place's shard
pub accepted_at : (books : ℕ → BookNames) (ss : List ShareState) (place : ℕ) (s d : ShareState) → AreAcceptedIn books ss → place < length ss
    → s ≡ slice_index_or ss place d → s.book ≡ (books place).accepted
accepted_at books [] place s d own below is = absurd (omega (arith, below))
accepted_at books (t ∷ ts) zero s d own below is = subst (λ (u : ShareState). u.book ≡ (books 0).accepted) (sym is) (own 0 t refl)
accepted_at books (t ∷ ts) (suc place) s d own below is =
    accepted_at (λ i. books (suc i)) ts place s d (λ i. own (suc i)) (omega (arith, below)) is

-- all are, where one of the same book stands at the place
pub accepted_set : (books : ℕ → BookNames) (ss : List ShareState) (place : ℕ) (s : ShareState) → AreAcceptedIn books ss
    → s.book ≡ (books place).accepted → AreAcceptedIn books (slice_set ss place s)
accepted_set books [] place s own is i u at = own i u at
accepted_set books (t ∷ ts) zero s own is zero u at = let same : s ≡ u = cc in subst (λ (v : ShareState). v.book ≡ (books 0).accepted) same is
accepted_set books (t ∷ ts) zero s own is (suc i) u at = own (suc i) u at
accepted_set books (t ∷ ts) (suc place) s own is zero u at = own zero u at
accepted_set books (t ∷ ts) (suc place) s own is (suc i) u at = accepted_set (λ j. books (suc j)) ts place s (λ j. own (suc j)) is i u at

pub others_set : (place i : ℕ) (ss : List ShareState) (s : ShareState) → i ≢ place → slice_get (slice_set ss place s) i ≡ slice_get ss i
others_set place i [] s other = refl
others_set zero zero (t ∷ ts) s other = absurd (other refl)
others_set zero (suc i) (t ∷ ts) s other = refl
others_set (suc place) zero (t ∷ ts) s other = refl
others_set (suc place) (suc i) (t ∷ ts) s other = others_set place i ts s (λ same. other (omega (arith, same)))

-- a share that comes back as it was
pub same_set : (ss : List ShareState) (place : ℕ) (s d : ShareState) → place < length ss → s ≡ slice_index_or ss place d → slice_set ss place s ≡ ss
same_set [] place s d below is = refl
same_set (t ∷ ts) zero s d below is = ap (λ (u : ShareState). u ∷ ts) is
same_set (t ∷ ts) (suc place) s d below is = ap (λ (us : List ShareState). t ∷ us) (same_set ts place s d (omega (arith, below)) is)

pub amount_there : (ss : List ShareState) (place : ℕ) (s d : ShareState) → place < length ss → s ≡ slice_index_or ss place d → amount_at place ss ≡ s.amount
amount_there [] place s d below is = absurd (omega (arith, below))
amount_there (t ∷ ts) zero s d below is = ap (λ (u : ShareState). u.amount) (sym is)
amount_there (t ∷ ts) (suc place) s d below is = amount_there ts place s d (omega (arith, below)) is

-- what is at least as much at each place, and at the next
pub no_less_push : (f : ℕ → ℕ) (fronts : List ℕ) (front : ℕ) → ((i : ℕ) (n : ℕ) → slice_get fronts i ≡ Some n → f i ≤ n) → f (length fronts) ≤ front
    → (i : ℕ) (n : ℕ) → slice_get (fronts ++ front ∷ []) i ≡ Some n → f i ≤ n
no_less_push f [] front less here zero n at = let same : front ≡ n = cc in subst (λ m. f 0 ≤ m) same here
no_less_push f [] front less here (suc i) n at = absurd cc
no_less_push f (x ∷ xs) front less here zero n at = less zero n at
no_less_push f (x ∷ xs) front less here (suc i) n at = no_less_push (λ j. f (suc j)) xs front (λ j. less (suc j)) here i n at
