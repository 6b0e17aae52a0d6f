-- Shards that stand at their places.
use Rattle.std.proofs.Common.{◌≡◌, ◌⊎◌, inl, inr, ℕ, zero, suc, ◌+◌, List, [], ◌∷◌, ◌++◌, length, Some, refl, sym, ap, ◌∙◌, arith}
use Rattle.std.specs.Prelude.{slice_get}
use Rattle.ing_begun.specs.Books.{BookNames, names_of}
use Rattle.ing_tally.specs.Books.{ShareState}
use Rattle.ing_flush.specs.Tallies.{AreStoredIn}
use Rattle.ing_begun.specs.Begun.{BegunState}
use Rattle.ing_node.specs.Names.{AreAcceptedIn}

-- what stands at a place once one more is put behind a list
pub push_get : {X : Type 0} (xs : List X) (x : X) (i : ℕ) (y : X) → slice_get (xs ++ x ∷ []) i ≡ Some y → ((i ≡ length xs) × (y ≡ x)) ⊎ (slice_get xs i ≡ Some y)
push_get [] x zero y at = let same : x ≡ y = cc in inl (refl, sym same)
push_get [] x (suc i) y at = absurd cc
push_get (z ∷ xs) x zero y at = inr at
push_get (z ∷ xs) x (suc i) y at = further (push_get xs x i y at) where
  further : ((i ≡ length xs) × (y ≡ x)) ⊎ (slice_get xs i ≡ Some y) → ((suc i ≡ suc (length xs)) × (y ≡ x)) ⊎ (slice_get xs i ≡ Some y)
  further (inl there) = inl (ap suc there.0, there.1)
  further (inr before) = inr before

-- one more share is put at its place
pub accepted_push : (books : ℕ → BookNames) (ss : List ShareState) (s : ShareState) → AreAcceptedIn books ss → s.book ≡ (books (length ss)).accepted → AreAcceptedIn books (ss ++ s ∷ [])
accepted_push books ss s own is i t at = by (push_get ss s i t at) where
  by : ((i ≡ length ss) × (t ≡ s)) ⊎ (slice_get ss i ≡ Some t) → t.book ≡ (books i).accepted
  by (inl there) = ap (λ (u : ShareState). u.book) there.1 ∙ is ∙ ap (λ n. (books n).accepted) (sym there.0)
  by (inr before) = own i t before

pub stored_push : (books : ℕ → BookNames) (ss : List ShareState) (s : ShareState) → AreStoredIn books ss → s.book ≡ (books (length ss)).stored → AreStoredIn books (ss ++ s ∷ [])
stored_push books ss s own is i t at = by (push_get ss s i t at) where
  by : ((i ≡ length ss) × (t ≡ s)) ⊎ (slice_get ss i ≡ Some t) → t.book ≡ (books i).stored
  by (inl there) = ap (λ (u : ShareState). u.book) there.1 ∙ is ∙ ap (λ n. (books n).stored) (sym there.0)
  by (inr before) = own i t before

-- each has the books that are named for the numbers from this one on
abbrev pub AreNamedFrom : {D : Type 0} → (ℕ → BookNames) → ℕ → List (BegunState D) → Type 0
AreNamedFrom books number [] = Unit {0}
AreNamedFrom books number (b ∷ bs) = (names_of b.shard.memory.books ≡ books number) × AreNamedFrom books (number + 1) bs

pub named_from : {D : Type 0} (books : ℕ → BookNames) (number : ℕ) (bs : List (BegunState D))
    → ((i : ℕ) (b : BegunState D) → slice_get bs i ≡ Some b → names_of b.shard.memory.books ≡ books (number + i)) → AreNamedFrom books number bs
named_from books number [] named = tt
named_from books number (b ∷ bs) named =
    (named 0 b refl ∙ ap books (omega arith), named_from books (number + 1) bs (λ i c at. named (suc i) c at ∙ ap books (omega arith)))
