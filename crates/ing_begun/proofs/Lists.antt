-- Lists that are gone through, from the front or from the end.
use Rattle.std.proofs.Common.{◌≡◌, ◌<◌, ◌++◌, ℕ, zero, suc, List, [], ◌∷◌, length, take, true, false, refl, subst, arith, reverse}
use Rattle.std.specs.Prelude.{All, slice_index_or}
use Rattle.std.proofs.lemmas.List.{reverse-append}
use Rattle.std.proofs.lemmas.List.Elements.{All-cons, All-head, All-nil, All-tail}

-- one more of the first of a list has what they have
pub all_next : {X : Type 0} (P : X → Type 0) (xs : List X) (i : ℕ) (x d : X) → i < length xs → x ≡ slice_index_or xs i d → P x → All P (take i xs) → All P (take (suc i) xs)
all_next P [] i x d below is one all = absurd (omega (arith, below))
all_next P (y ∷ xs) zero x d below is one all = All-cons P y [] (subst P is one) (All-nil P)
all_next P (y ∷ xs) (suc i) x d below is one all =
    All-cons P y (take (suc i) xs) (All-head P y (take i xs) all) (all_next P xs i x d (omega (arith, below)) is one (All-tail P y (take i xs) all))

-- where there would be a last item if there were any, and there is none
pub none_left : (n : ℕ) → (0 < n → false ≡ true) → n ≡ 0
none_left zero some = refl
none_left (suc n) some = let no : false ≡ true = some (omega arith) in absurd cc

-- the last of a list is the first of the turned one
pub turned_last : {X : Type 0} (xs : List X) (x : X) → reverse (xs ++ x ∷ []) ≡ x ∷ reverse xs
turned_last xs x = reverse-append xs (x ∷ [])

-- what holds of two holds of those that they are the same as
pub of_same : {W : Type 0} (P : W → W → Type 0) (a b old new : W) → a ≡ old → b ≡ new → P a b → P old new
of_same P a b old new first then holds = subst (λ x. P x new) first (subst (λ y. P a y) then holds)
