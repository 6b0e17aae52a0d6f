-- Shares that are handed out to the lists of their shards.
use Rattle.std.proofs.Common.{◌≡◌, ◌<◌, ◌+◌, ℕ, zero, suc, List, [], ◌∷◌, ◌++◌, ◌≤◌, length, Option, Some, None, refl, sym, ap, subst, ◌∙◌, arith, append-nil, length-append, slice_set, vec_len}
use Rattle.std.specs.Prelude.{slice_get, slice_index_or, sum_by}
use Rattle.std.specs.Global.{Vec}
use Rattle.std.specs.Vec.{vec_capacity}
use Rattle.std.proofs.lemmas.List.Sums.{sum_by-append}
use Rattle.std.proofs.lemmas.List.Elements.{All-append, All-nil, All-cons}
use Rattle.ing_tally.specs.Books.{AreOf, BookName, ShareState, amount_of}
use Rattle.ing_begun.specs.Books.{BookNames}
use Rattle.ing_flush.specs.Tallies.{AreStoredIn, amount_at}
use Rattle.ing_node.specs.Names.{AreAcceptedIn}
use Rattle.ing_node.specs.Closing.{one_at, one_in, shares_at}

-- the share at a place has what there is at the place
pub amount_one : (i : ℕ) (ss : List ShareState) → amount_of (one_at i ss) ≡ amount_at i ss
amount_one zero [] = refl
amount_one (suc i) [] = refl
amount_one zero (s ∷ ss) = omega arith
amount_one (suc i) (s ∷ ss) = amount_one i ss

pub count_one : (i : ℕ) (ss : List ShareState) → i < length ss → length (one_at i ss) ≡ 1
count_one zero [] below = absurd (omega (arith, below))
count_one (suc i) [] below = absurd (omega (arith, below))
count_one zero (s ∷ ss) below = refl
count_one (suc i) (s ∷ ss) below = count_one i ss (omega (arith, below))

own_in : (name : BookName) (o : Option ShareState) → ((s : ShareState) → o ≡ Some s → s.book ≡ name) → AreOf name (one_in o)
own_in name None own = All-nil (λ (s : ShareState). s.book ≡ name)
own_in name (Some s) own = All-cons (λ (t : ShareState). t.book ≡ name) s [] (own s refl) (All-nil (λ (t : ShareState). t.book ≡ name))

pub stored_one : (books : ℕ → BookNames) (ss : List ShareState) → AreStoredIn books ss → (i : ℕ) → AreOf (books i).stored (one_at i ss)
stored_one books ss own i = own_in (books i).stored (slice_get ss i) (own i)

pub accepted_one : (books : ℕ → BookNames) (ss : List ShareState) → AreAcceptedIn books ss → (i : ℕ) → AreOf (books i).accepted (one_at i ss)
accepted_one books ss own i = own_in (books i).accepted (slice_get ss i) (own i)

-- ---- the last share is handed out

-- each list has room for the share that is to come, and for so many more
abbrev pub RoomFor : ℕ → List ShareState → List (Vec ShareState) → Type 0
RoomFor n rest lists = (i : ℕ) (list : Vec ShareState) → slice_get lists i ≡ Some list → vec_len list + length (one_at i rest) + n ≤ vec_capacity list

module _ (s : ShareState) (new : Vec ShareState) where
  -- it stands behind the shares that its list had
  pub handed_step : (lists : List (Vec ShareState)) (place : ℕ) (old : Vec ShareState) (init : List ShareState) → place < length lists
      → old ≡ slice_index_or lists place old → length init ≡ place → new.items ≡ old.items ++ s ∷ []
      → (i : ℕ) → shares_at i (slice_set lists place new) ++ one_at i init ≡ shares_at i lists ++ one_at i (init ++ s ∷ [])
  handed_step [] place old init below is count more i = absurd (omega (arith, below))
  handed_step (l ∷ ls) zero old [] below is count more zero = append-nil new.items ∙ more ∙ ap (λ (v : Vec ShareState). v.items ++ s ∷ []) is
  handed_step (l ∷ ls) zero old [] below is count more (suc i) = refl
  handed_step (l ∷ ls) zero old (t ∷ ts) below is count more i = absurd (omega (arith, count))
  handed_step (l ∷ ls) (suc place) old [] below is count more i = absurd (omega (arith, count))
  handed_step (l ∷ ls) (suc place) old (t ∷ ts) below is count more zero = refl
  handed_step (l ∷ ls) (suc place) old (t ∷ ts) below is count more (suc i) =
      handed_step ls place old ts (omega (arith, below)) is (omega (arith, count)) more i

  -- and there is room for it
  pub room_there : (lists : List (Vec ShareState)) (place : ℕ) (old : Vec ShareState) (init : List ShareState) → place < length lists
      → old ≡ slice_index_or lists place old → length init ≡ place → RoomFor 0 (init ++ s ∷ []) lists → vec_len old < vec_capacity old
  room_there [] place old init below is count room = absurd (omega (arith, below))
  room_there (l ∷ ls) zero old [] below is count room =
      let here : vec_len l + 1 + 0 ≤ vec_capacity l = room 0 l refl in
      subst (λ (v : Vec ShareState). vec_len v < vec_capacity v) (sym is) (omega (arith, here))
  room_there (l ∷ ls) zero old (t ∷ ts) below is count room = absurd (omega (arith, count))
  room_there (l ∷ ls) (suc place) old [] below is count room = absurd (omega (arith, count))
  room_there (l ∷ ls) (suc place) old (t ∷ ts) below is count room =
      room_there ls place old ts (omega (arith, below)) is (omega (arith, count)) (λ i. room (suc i))

  pub room_step : (n : ℕ) (lists : List (Vec ShareState)) (place : ℕ) (old : Vec ShareState) (init : List ShareState) → place < length lists
      → old ≡ slice_index_or lists place old → length init ≡ place → vec_len new ≡ vec_len old + 1 → vec_capacity new ≡ vec_capacity old
      → RoomFor n (init ++ s ∷ []) lists → RoomFor n init (slice_set lists place new)
  room_step n [] place old init below is count longer same room i list at = absurd (omega (arith, below))
  room_step n (l ∷ ls) zero old [] below is count longer same room zero list at =
      let there : new ≡ list = cc in
      let here : vec_len l + 1 + n ≤ vec_capacity l = room 0 l refl in
      let was : vec_len old + 1 + n ≤ vec_capacity old = subst (λ (v : Vec ShareState). vec_len v + 1 + n ≤ vec_capacity v) (sym is) here in
      subst (λ (v : Vec ShareState). vec_len v + 0 + n ≤ vec_capacity v) there (omega (arith, was, longer, same))
  room_step n (l ∷ ls) zero old [] below is count longer same room (suc i) list at = room (suc i) list at
  room_step n (l ∷ ls) zero old (t ∷ ts) below is count longer same room i list at = absurd (omega (arith, count))
  room_step n (l ∷ ls) (suc place) old [] below is count longer same room i list at = absurd (omega (arith, count))
  room_step n (l ∷ ls) (suc place) old (t ∷ ts) below is count longer same room zero list at = room zero list at
  room_step n (l ∷ ls) (suc place) old (t ∷ ts) below is count longer same room (suc i) list at =
      room_step n ls place old ts (omega (arith, below)) is (omega (arith, count)) longer same (λ j. room (suc j)) i list at

-- ---- and so all are

module _ (i : ℕ) (new old ss : List ShareState) (is : new ≡ old ++ one_at i ss) where
  pub gathered_amount : amount_of new ≡ amount_of old + amount_at i ss
  gathered_amount = ap amount_of is ∙ sum_by-append (λ (s : ShareState). s.amount) old (one_at i ss) ∙ ap (λ n. amount_of old + n) (amount_one i ss)

  pub gathered_count : i < length ss → length new ≡ length old + 1
  gathered_count below = ap length is ∙ length-append old (one_at i ss) ∙ ap (λ n. length old + n) (count_one i ss below)

  pub gathered_own : (name : BookName) → AreOf name old → AreOf name (one_at i ss) → AreOf name new
  gathered_own name own one =
      subst (AreOf name) (sym is) (All-append (λ (s : ShareState). s.book ≡ name) old (one_at i ss) own one)

  -- what stands in a list and what is to come is as much as before
  pub gathered_sum : {P : Type 0} (shares_of : P → List ShareState) (p : P) → shares_of p ≡ ss → (rest all : List P) → all ≡ rest ++ p ∷ [] → (n : ℕ)
      → amount_of old + sum_by (λ q. amount_at i (shares_of q)) all ≡ n → amount_of new + sum_by (λ q. amount_at i (shares_of q)) rest ≡ n
  gathered_sum {P} shares_of p mine rest all last n sum =
      let f : P → ℕ = λ q. amount_at i (shares_of q) in
      let one : f p ≡ amount_at i ss = ap (amount_at i) mine in
      let ended : sum_by f all ≡ sum_by f rest + (0 + f p) = ap (sum_by f) last ∙ sum_by-append f rest (p ∷ []) in
      omega (arith, gathered_amount, ended, one, sum)
