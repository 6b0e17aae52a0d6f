-- One share of a tally that rises.
use Rattle.std.proofs.Common.{◌≡◌, ◌≢◌, ◌<◌, ◌+◌, ℕ, zero, suc, List, [], ◌∷◌, length, refl, ap, sym, subst, ◌∙◌, arith, slice_set}
use Rattle.std.specs.Prelude.{slice_get, slice_index_or}
use Rattle.ing_chunk.specs.Chunks.{ChunkContents, IsWhole, count_in, in_blocks}
use Rattle.ing_tally.specs.Books.{ShareState}
use Rattle.ing_shard.specs.Books.{BookNames}
use Rattle.ing_flush.specs.Flushes.{RisesBy}
use Rattle.ing_flush.specs.Tallies.{AreStoredIn, amount_at}

-- the share at a place is of the place's shard
pub stored_at : (books : ℕ → BookNames) (ss : List ShareState) (place : ℕ) (s d : ShareState) → AreStoredIn books ss → place < length ss
    → s ≡ slice_index_or ss place d → s.book ≡ (books place).stored
stored_at books [] place s d own below is = absurd (omega (arith, below))
stored_at books (t ∷ ts) zero s d own below is = subst (λ (u : ShareState). u.book ≡ (books 0).stored) (sym is) (own 0 t refl)
stored_at books (t ∷ ts) (suc place) s d own below is =
    stored_at (λ i. books (suc i)) ts place s d (λ i. own (suc i)) (omega (arith, below)) is

-- all are, where one of the same book stands at the place
pub stored_set : (books : ℕ → BookNames) (ss : List ShareState) (place : ℕ) (s : ShareState) → AreStoredIn books ss
    → s.book ≡ (books place).stored → AreStoredIn books (slice_set ss place s)
stored_set books [] place s own is i u at = own i u at
stored_set books (t ∷ ts) zero s own is zero u at = let same : s ≡ u = cc in subst (λ (v : ShareState). v.book ≡ (books 0).stored) same is
stored_set books (t ∷ ts) zero s own is (suc i) u at = own (suc i) u at
stored_set books (t ∷ ts) (suc place) s own is zero u at = own zero u at
stored_set books (t ∷ ts) (suc place) s own is (suc i) u at = stored_set (λ j. books (suc j)) ts place s (λ j. own (suc j)) is i u at

amount_set : (n place : ℕ) (ss : List ShareState) (s d : ShareState) → place < length ss → d ≡ slice_index_or ss place d
    → s.amount ≡ d.amount + n → amount_at place (slice_set ss place s) ≡ amount_at place ss + n
amount_set n place [] s d below is more = absurd (omega (arith, below))
amount_set n zero (t ∷ ts) s d below is more = let same : d ≡ t = is in subst (λ (u : ShareState). s.amount ≡ u.amount + n) same more
amount_set n (suc place) (t ∷ ts) s d below is more = amount_set n place ts s d (omega (arith, below)) is more

others_set : (place i : ℕ) (ss : List ShareState) (s : ShareState) → i ≢ place → slice_get (slice_set ss place s) i ≡ slice_get ss i
others_set place i [] s other = refl
others_set zero zero (t ∷ ts) s other = absurd (other refl)
others_set zero (suc i) (t ∷ ts) s other = refl
others_set (suc place) zero (t ∷ ts) s other = refl
others_set (suc place) (suc i) (t ∷ ts) s other = others_set place i ts s (λ same. other (omega (arith, same)))

pub rises_set : (n place : ℕ) (ss : List ShareState) (s d : ShareState) → place < length ss → d ≡ slice_index_or ss place d
    → s.amount ≡ d.amount + n → 0 < n → RisesBy n place ss (slice_set ss place s)
rises_set n place ss s d below is more some = record {
  some = some;
  rose = amount_set n place ss s d below is more;
  others = λ i. others_set place i ss s;
}

-- ---- the share of a place that is lent

pub record IsLent (books : ℕ → BookNames) (ss : List ShareState) (shard place : ℕ) (s : ShareState) : Type 0 where
  pub own : AreStoredIn books ss
  pub below : place < length ss
  pub value : s ≡ slice_index_or ss place s
  pub same : place ≡ shard

pub lent : (books : ℕ → BookNames) (ss now : List ShareState) (shards shard place : ℕ) (s : ShareState) → ss ≡ now → AreStoredIn books now
    → length now ≡ shards → shard < shards → place ≡ shard → s ≡ slice_index_or ss place s → IsLent books ss shard place s
lent books ss now shards shard place s is own all there at value = record {
  own = subst (AreStoredIn books) (sym is) own;
  below = subst (λ (ts : List ShareState). place < length ts) (sym is) (omega (arith, all, there, at));
  value = value;
  same = at;
}

module _ (books : ℕ → BookNames) (ss : List ShareState) (shard place : ℕ) (s : ShareState) (is : IsLent books ss shard place s) where
  pub lent_book : s.book ≡ (books shard).stored
  lent_book = stored_at books ss place s s is.own is.below is.value ∙ ap (λ i. (books i).stored) is.same

  pub back_own : (t : ShareState) → t.book ≡ s.book → AreStoredIn books (slice_set ss place t)
  back_own t same = stored_set books ss place t is.own (same ∙ stored_at books ss place s s is.own is.below is.value)

  pub back_risen : (n : ℕ) (now : List ShareState) (t : ShareState) → ss ≡ now → t.amount ≡ s.amount + n → 0 < n → RisesBy n shard now (slice_set ss place t)
  back_risen n now t same more some =
      subst (λ i. RisesBy n i now (slice_set ss place t)) is.same
      (subst (λ (ts : List ShareState). RisesBy n place ts (slice_set ss place t)) same (rises_set n place ss t s is.below is.value more some))

-- ---- chunks

-- a whole chunk has the entries of its blocks
pub whole_count : (chunk : ChunkContents) → IsWhole chunk → count_in chunk ≡ length (in_blocks chunk.blocks)
whole_count chunk is = let none : length chunk.head ≡ 0 = ap length is.closed in omega (arith, none)
