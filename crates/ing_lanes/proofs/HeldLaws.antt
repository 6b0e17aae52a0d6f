-- What is held stays held where nothing of it changes.
use Rattle.std.proofs.Common.{◌≡◌, ◌≢◌, ◌≤◌, ◌∙◌, ℕ, zero, suc, List, [], ◌∷◌, ◌++◌, length, Some, inl, inr, ⊎_elim, ◌⊎◌, ap, arith, refl, subst, sym}
use Rattle.std.specs.Prelude.{slice_get}
use Rattle.ing_tally.specs.Counts.{ReaderState}
use Rattle.ing_tally.specs.declared.counts.Counts.{Counts}
use Rattle.ing_node.specs.Boards.{IsNoLess, known_at, known_of}
use Rattle.ing_node.specs.Diaries.{PusherState}
use Rattle.ing_lanes.specs.ByLane.{AreOrdered, Held, Told, told_by}
use Rattle.ing_lanes.specs.Counted.{IsHeld, IsHeldAtLeast, Rises}

-- no less than what was no less
pub no_less_on : (a b c : Counts) → IsNoLess a b → IsNoLess b c → IsNoLess a c
no_less_on a b c ab bc =
    let accepted = ab.0 in
    let stored = ab.1 in
    let accepted_on = bc.0 in
    let stored_on = bc.1 in
    (omega (arith, accepted, accepted_on), omega (arith, stored, stored_on))

-- pusher, flushers and reader are as they were
pub same_held : {W : Type 0} (counted : W → ℕ) (p q : PusherState) (v w : W) (r s : List ReaderState) (held : Held) → q ≡ p → w ≡ v → s ≡ r
    → IsHeld p (counted v) r held → IsHeld q (counted w) s held
same_held counted p q v w r s held pusher flushers reader is =
    subst (λ x. IsHeld x (counted w) s held) (sym pusher)
    (subst (λ x. IsHeld p (counted x) s held) (sym flushers)
    (subst (λ x. IsHeld p (counted v) x held) (sym reader) is))

-- ---- what is told rises

pub rises_none : (a : Told) → Rises a a
rises_none a = λ i. omega arith

pub rises_trans : (a b c : Told) → Rises a b → Rises b c → Rises a c
rises_trans a b c h k = λ i. omega (arith, h i, k i)

-- a pusher that is as it was
pub rises_same : (p q : PusherState) → q ≡ p → Rises (told_by p) (told_by q)
rises_same p q same = subst (λ x. Rises (told_by p) (told_by x)) (sym same) (rises_none (told_by p))

-- at least what was held
pub held_least : (p q : PusherState) (n k : ℕ) (r : List ReaderState) (held : Held) → Rises (told_by p) (told_by q) → n ≤ k → IsHeld p n r held → IsHeldAtLeast q k held
held_least p q n k r held told counted is = record {
  told = λ i. (let same = is.told i in let more = told i in omega (arith, same, more));
  chunks = (let chunks = is.chunks in omega (arith, chunks, counted));
}

-- ---- one shard more is read

-- what stands in a list with one more at its end
at_end : {X : Type 0} (xs : List X) (x : X) (i : ℕ) (y : X) → slice_get (xs ++ x ∷ []) i ≡ Some y → (slice_get xs i ≡ Some y) ⊎ ((i ≡ length xs) × (x ≡ y))
at_end [] x zero y at = inr (refl, cc)
at_end [] x (suc i) y at = absurd cc
at_end (z ∷ zs) x zero y at = inl at
at_end (z ∷ zs) x (suc i) y at = ⊎_elim (λ was. inl was) (λ t. inr (ap suc t.0, t.1)) (at_end zs x i y at)

pub same_or_other : (i j : ℕ) → (i ≡ j) ⊎ (i ≢ j)
same_or_other zero zero = inl refl
same_or_other zero (suc j) = inr (λ same. absurd (omega (arith, same)))
same_or_other (suc i) zero = inr (λ same. absurd (omega (arith, same)))
same_or_other (suc i) (suc j) = ⊎_elim (λ same. inl (ap suc same)) (λ other. inr (λ same. other (omega (arith, same)))) (same_or_other i j)

pub ordered_on : (shards : List Counts) (counts : Counts) → AreOrdered shards → counts.stored ≤ counts.accepted → AreOrdered (shards ++ counts ∷ [])
ordered_on shards counts ordered this i c at =
    ⊎_elim (λ was. ordered i c was) (λ t. subst (λ (d : Counts). d.stored ≤ d.accepted) t.1 this) (at_end shards counts i c at)

below_end : {X : Type 0} (xs : List X) (i : ℕ) (y : X) → slice_get xs i ≡ Some y → i ≢ length xs
below_end [] i y at same = absurd cc
below_end (z ∷ zs) zero y at same = absurd cc
below_end (z ∷ zs) (suc i) y at same = below_end zs i y at (omega (arith, same))

module _ (before after : List ReaderState) (shard : ℕ) (counts : Counts) where
  pub later_on : (first : List ReaderState) → ((i : ℕ) → IsNoLess (known_at i first) (known_at i before)) → IsNoLess (known_at shard before) counts
      → known_at shard after ≡ counts → ((i : ℕ) → i ≢ shard → slice_get after i ≡ slice_get before i) → (i : ℕ) → IsNoLess (known_at i first) (known_at i after)
  later_on first later this here others i =
      ⊎_elim
      (λ same. subst (λ j. IsNoLess (known_at j first) (known_at j after)) (sym same) (subst (IsNoLess (known_at shard first)) (sym here) (no_less_on (known_at shard first) (known_at shard before) counts (later shard) this)))
      (λ other. subst (IsNoLess (known_at i first)) (sym (ap known_of (others i other))) (later i))
      (same_or_other i shard)

  pub known_on : (shards : List Counts) → length shards ≡ shard → ((i : ℕ) (c : Counts) → slice_get shards i ≡ Some c → known_at i before ≡ c)
      → known_at shard after ≡ counts → ((i : ℕ) → i ≢ shard → slice_get after i ≡ slice_get before i)
      → (i : ℕ) (c : Counts) → slice_get (shards ++ counts ∷ []) i ≡ Some c → known_at i after ≡ c
  known_on shards long known here others i c at =
      ⊎_elim
      (λ was. ap known_of (others i (λ same. below_end shards i c was (same ∙ sym long))) ∙ known i c was)
      (λ t. ap (λ j. known_at j after) (t.0 ∙ long) ∙ here ∙ t.1)
      (at_end shards counts i c at)
