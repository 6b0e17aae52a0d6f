-- What shards that nobody shares begin with over their logs.
use Rattle.std.proofs.Common.{◌≡◌, ◌∙◌, ℕ, zero, suc, Some, ◌+◌, ◌++◌, append_assoc, ap, length, List, [], ◌∷◌, map, refl, reverse, arith, subst, sym, true, slice_get}
use Rattle.std.proofs.lemmas.List.{length-map, length-reverse, map-append, reverse-append}
use Rattle.std.proofs.lemmas.Option.{none-some, same_Some}
use Rattle.std.specs.List.{AllByRecursion}
use Rattle.std.specs.Prelude.{All}
use Rattle.std.proofs.lemmas.List.Elements.{All-cons, All-head, All-nil, All-tail}
use Rattle.ing_limits.specs.Settings.{StoreSettings}
use Rattle.ing_lanes.specs.Kept.{Replays, shard_at, whose}
use Rattle.ing_lanes.specs.Begun.{AreBegunFrom, BegunState, HasReplayed, IsBegunAs}
use Rattle.ing_service.specs.Held.{AreShardsOf, Begun, BeginsOver, ShardHeld, shard_held, whose_from}

-- what stands at a place of a list that is made of another
made_of : {X Y : Type 0} (f : X → Y) (xs : List X) (i : ℕ) (y : Y) → slice_get (map f xs) i ≡ Some y → (x : X) × (slice_get xs i ≡ Some x) × (f x ≡ y)
made_of f [] i y at = absurd (none-some y at)
made_of f (x ∷ xs) zero y at = (x, refl, same_Some (f x) y at)
made_of f (x ∷ xs) (suc i) y at = made_of f xs i y at

all_at : {X : Type 0} (P : X → Type 0) (xs : List X) (i : ℕ) (x : X) → AllByRecursion P xs → slice_get xs i ≡ Some x → P x
all_at P [] i x all at = absurd (none-some x at)
all_at P (y ∷ xs) zero x all at = subst P (same_Some y x at) all.0
all_at P (y ∷ xs) (suc i) x all at = all_at P xs i x all.1 at

-- its shares are of its books
abbrev pub HasOwnShares : {D : Type 0} → BegunState D → Type 0
HasOwnShares b = (b.accepted.book ≡ b.shard.memory.books.accepted.name) × (b.stored.book ≡ b.shard.memory.books.stored.name)

-- by what they are made of
abbrev pub begun_with : {D : Type 0} → List (BegunState D) → Begun
begun_with {D = D} bs = record { shards = map (λ (b : BegunState D). shard_held b.shard) bs; logged = true }

module _ {D : Type 0} (settings : StoreSettings) where
  -- they are the shards of their settings
  whose_of : (first : ℕ) (bs : List (BegunState D)) → AreBegunFrom settings first bs → map (λ (b : BegunState D). whose b.shard.memory) bs ≡ whose_from settings first (length bs)
  whose_of first [] placed = refl
  whose_of first (b ∷ bs) placed =
      let here = placed 0 b refl in
      let number : b.shard.memory.number ≡ first = omega (arith, here.1) in
      let rest : AreBegunFrom settings (first + 1) bs = λ i x at. (let said = placed (suc i) x at in (said.0, omega (arith, said.1), said.2, said.3)) in
      λ j. (record { settings = here.0 j; number = number j }) ∷ (whose_of (first + 1) bs rest j)

  pub are_shards : (bs : List (BegunState D)) → length bs ≡ settings.shards → AreBegunFrom settings 0 bs → AreShardsOf settings (map (λ (b : BegunState D). whose b.shard.memory) bs)
  are_shards bs all placed = whose_of 0 bs placed ∙ ap (whose_from settings 0) all

  -- and their shares are of their books
  pub own_shares : (first : ℕ) (bs : List (BegunState D)) → AreBegunFrom settings first bs → All HasOwnShares bs
  own_shares first [] placed = All-nil HasOwnShares
  own_shares first (b ∷ bs) placed =
      let here = placed 0 b refl in
      All-cons HasOwnShares b bs (here.2, here.3) (own_shares (first + 1) bs (λ i x at. (let said = placed (suc i) x at in (said.0, omega (arith, said.1), said.2, said.3))))

made_twice : {S X Y : Type 0} (f : S → X) (h : X → Y) (ss : List S) → map h (map f ss) ≡ map (λ s. h (f s)) ss
made_twice f h [] = refl
made_twice f h (s ∷ ss) = ap (λ l. h (f s) ∷ l) (made_twice f h ss)

-- what is the same of two lists is so of what is made of that
pub made_alike : {S B X Y : Type 0} (f : S → X) (k : B → X) (h : X → Y) (ss : List S) (bs : List B) → map f ss ≡ map k bs → map (λ s. h (f s)) ss ≡ map (λ b. h (k b)) bs
made_alike f k h ss bs same = sym (made_twice f h ss) ∙ ap (map h) same ∙ made_twice k h bs

-- ---- the last first

-- the last of a list is the first in reverse
pub first_own : {D : Type 0} (bs rest : List (BegunState D)) (b : BegunState D) → bs ≡ rest ++ b ∷ [] → All HasOwnShares (reverse bs) → HasOwnShares b × All HasOwnShares (reverse rest)
first_own {D = D} bs rest b is own =
    let all = subst (All HasOwnShares) (ap reverse is ∙ reverse-append rest (b ∷ [])) own in
    (All-head HasOwnShares b (reverse rest) all, All-tail HasOwnShares b (reverse rest) all)

-- one more is put behind those that were taken before
pub taken_more : {S B X : Type 0} (f : S → X) (h : B → X) (before new : List S) (s : S) (bs rest : List B) (b : B) (all : List X) → new ≡ before ++ s ∷ [] → bs ≡ rest ++ b ∷ [] → f s ≡ h b
    → map f before ++ map h (reverse bs) ≡ all → map f new ++ map h (reverse rest) ≡ all
taken_more f h before new s bs rest b all more is same so_far =
    ap (λ l. map f l ++ map h (reverse rest)) more ∙ ap (λ l. l ++ map h (reverse rest)) (map-append f before (s ∷ [])) ∙ append_assoc (map f before) (f s ∷ []) (map h (reverse rest))
    ∙ ap (λ x. map f before ++ x ∷ map h (reverse rest)) same ∙ sym (ap (λ l. map f before ++ map h l) (ap reverse is ∙ reverse-append rest (b ∷ []))) ∙ so_far

-- which shard one is that was begun at a place
numbered : {D : Type 0} (settings : StoreSettings) (place : ℕ) (b : BegunState D) → IsBegunAs settings (0 + place) b → whose b.shard.memory ≡ shard_at settings place
numbered settings place b begun = let number : b.shard.memory.number ≡ place = begun.1 ∙ omega arith in λ i. record { settings = begun.0 i; number = number i }

-- what each holds is what its log replays to
pub begins_over : {D : Type 0} (honest : Type 0) (settings : StoreSettings) (text : D → List ℕ) (logs : List D) (last_first : List (BegunState D)) → length last_first ≡ length logs
    → AreBegunFrom settings 0 (reverse last_first) → (honest → AllByRecursion (HasReplayed text logs) (reverse last_first)) → BeginsOver honest settings (map text logs) (begun_with (reverse last_first))
begins_over {D = D} honest settings text logs last_first long placed replayed =
    let bs = reverse last_first in
    record {
      logged = refl;
      all = length-map bs (λ (b : BegunState D). shard_held b.shard) ∙ length-reverse last_first ∙ long ∙ sym (length-map logs text);
      replays = λ is i t shard of_log of_shard.
          let log = made_of text logs i t of_log in
          let b = made_of (λ (b : BegunState D). shard_held b.shard) bs i shard of_shard in
          let number = (placed i b.0 b.1).1 in
          let here : b.0.shard.memory.number ≡ i = omega (arith, number) in
          let said = all_at (HasReplayed text logs) bs i b.0 (replayed is) b.1 log.0 (ap (slice_get logs) here ∙ log.1) in
          subst (λ u. Replays (shard_at settings i) u shard.state) log.2
          (subst (λ (h : ShardHeld). Replays (shard_at settings i) (text log.0) h.state) b.2
          (subst (λ w. Replays w (text log.0) b.0.shard.memory.state) (numbered settings i b.0 (placed i b.0 b.1)) said));
    }
