-- Which shards stand in a list.
use Rattle.std.proofs.Common.{◌≡◌, ◌∙◌, ℕ, zero, suc, ◌+◌, ◌<◌, ◌≤◌, List, [], ◌∷◌, ◌++◌, length, get_or, map, ap, arith, refl, subst, sym}
use Rattle.std.specs.Prelude.{All}
use Rattle.std.proofs.lemmas.List.{get_or-map, length-map}
use Rattle.std.proofs.lemmas.List.Elements.{All-cons, All-get_or, All-nil}
use Rattle.ing_limits.specs.Settings.{StoreSettings}
use Rattle.ing_durable.specs.Kept.{Whose}
use Rattle.ing_service.specs.Held.{AreShardsOf, IsBelowCount, whose_from}

pub many_whose : (settings : StoreSettings) (first count : ℕ) → length (whose_from settings first count) ≡ count
many_whose settings first zero = refl
many_whose settings first (suc count) = ap suc (many_whose settings (first + 1) count)

whose_at : (settings : StoreSettings) (first count i : ℕ) (w : Whose) → i < count → get_or (whose_from settings first count) i w ≡ record { settings = settings; number = first + i }
whose_at settings first zero i w below = absurd (omega (arith, below))
whose_at settings first (suc count) zero w below = (let same : first ≡ first + 0 = omega arith in λ j. record { settings = settings; number = same j })
whose_at settings first (suc count) (suc i) w below =
    let same : first + 1 + i ≡ first + suc i = omega arith in
    whose_at settings (first + 1) count i w (omega (arith, below)) ∙ λ j. record { settings = settings; number = same j }

all_below : (settings : StoreSettings) (first count : ℕ) → first + count ≤ settings.shards → All IsBelowCount (whose_from settings first count)
all_below settings first zero few = All-nil IsBelowCount
all_below settings first (suc count) few =
    All-cons IsBelowCount (record { settings = settings; number = first }) (whose_from settings (first + 1) count) (omega (arith, few)) (all_below settings (first + 1) count (omega (arith, few)))

module _ {S : Type 0} (w : S → Whose) (settings : StoreSettings) (seats : List S) (are : AreShardsOf settings (map w seats)) where
  pub how_many : length seats ≡ settings.shards
  how_many = sym (length-map seats w) ∙ ap length are ∙ many_whose settings 0 settings.shards

  -- the one at a place
  pub which : (i : ℕ) (seat d : S) → i < length seats → seat ≡ get_or seats i d → w seat ≡ record { settings = settings; number = i }
  which i seat d here is =
      let same : 0 + i ≡ i = omega arith in
      ap w is ∙ sym (get_or-map w seats i d (w seat) here) ∙ ap (λ l. get_or l i (w seat)) are ∙ whose_at settings 0 settings.shards i (w seat) (subst (λ n. i < n) how_many here)
      ∙ λ j. record { settings = settings; number = same j }

  pub below_count : All IsBelowCount (map w seats)
  below_count = subst (All IsBelowCount) (sym are) (all_below settings 0 settings.shards (omega arith))

-- one of those whose numbers are below how many shards there are
pub one_below : {S : Type 0} (w : S → Whose) (seats : List S) → All IsBelowCount (map w seats) → (i : ℕ) (seat d : S) → i < length seats → seat ≡ get_or seats i d → IsBelowCount (w seat)
one_below w seats all i seat d here is =
    let here_too : i < length (map w seats) = subst (λ n. i < n) (sym (length-map seats w)) here in
    subst IsBelowCount (get_or-map w seats i d (w seat) here ∙ ap w (sym is)) (All-get_or IsBelowCount (map w seats) i (w seat) here_too all)

-- one shard more
whose_suc : (settings : StoreSettings) (first count : ℕ) → whose_from settings first (suc count) ≡ whose_from settings first count ++ record { settings = settings; number = first + count } ∷ []
whose_suc settings first zero = (let same : first ≡ first + 0 = omega arith in λ j. record { settings = settings; number = same j } ∷ [])
whose_suc settings first (suc count) =
    let same : first + 1 + count ≡ first + suc count = omega arith in
    λ j. record { settings = settings; number = first } ∷ ((whose_suc settings (first + 1) count ∙ λ k. whose_from settings (first + 1) count ++ record { settings = settings; number = same k } ∷ []) j)

pub whose_more : (settings : StoreSettings) (first count : ℕ) → whose_from settings first (count + 1) ≡ whose_from settings first count ++ record { settings = settings; number = first + count } ∷ []
whose_more settings first count = (let same : count + 1 ≡ suc count = omega arith in ap (whose_from settings first) same) ∙ whose_suc settings first count
