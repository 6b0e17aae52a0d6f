-- Shards that go on one after another.
use Rattle.std.proofs.Common.{◌≡◌, ◌∙◌, ℕ, ◌+◌, ◌<◌, ◌≤◌, List, [], ◌∷◌, ◌++◌, length, map, take, drop, get_or, set, ap, arith, refl, subst, sym}
use Rattle.std.specs.Prelude.{Some}
use Rattle.std.proofs.Math.Seq.{take-append_seam}
use Rattle.std.proofs.lemmas.List.{drop_more, drop-set-lt, get_or-map, length-map, map_more, take_all, take_more, take_more_set}
use Rattle.std.proofs.lemmas.Option.{slice_get-get_or}
use Rattle.ing_service.specs.Each.{Each, GoesAt}
use Rattle.ing_service.specs.Held.{ShardHeld}

-- the heads and tails of equal lists
head_is : {X : Type 0} (x y : X) (xs ys : List X) → x ∷ xs ≡ y ∷ ys → x ≡ y
head_is x y xs ys same = ap (λ l. get_or l 0 x) same

tail_is : {X : Type 0} (x y : X) (xs ys : List X) → x ∷ xs ≡ y ∷ ys → xs ≡ ys
tail_is x y xs ys same = ap (drop 1) same

module _ {X : Type 0} (G : X → ShardHeld → ShardHeld → Type 0) where
  each_more : (xs : List X) (olds news : List ShardHeld) (x : X) (old new : ShardHeld) → Each G xs olds news → G x old new → Each G (xs ++ x ∷ []) (olds ++ old ∷ []) (news ++ new ∷ [])
  each_more [] [] [] x old new so_far this = (this, tt)
  each_more (y ∷ ys) (o ∷ os) (n ∷ ns) x old new so_far this = (so_far.0, each_more ys os ns x old new so_far.1 this)
  each_more [] [] (n ∷ ns) x old new so_far this = absurd so_far
  each_more [] (o ∷ os) ns x old new so_far this = absurd so_far
  each_more (y ∷ ys) [] ns x old new so_far this = absurd so_far
  each_more (y ∷ ys) (o ∷ os) [] x old new so_far this = absurd so_far

  -- So many of them have gone on, and the others are as they were.
  pub record HaveGone (xs : List X) (i : ℕ) (olds nows : List ShardHeld) : Type 0 where
    pub each : Each G xs (take i olds) (take i nows)
    pub left : drop i nows ≡ drop i olds

  pub none_gone : (olds : List ShardHeld) → HaveGone [] 0 olds olds
  none_gone olds = record { each = tt; left = refl }

  -- one more goes on
  pub one_gone : (xs : List X) (i : ℕ) (olds nows : List ShardHeld) (x : X) (old new : ShardHeld) → HaveGone xs i olds nows → i < length nows → i < length olds → old ≡ get_or nows i old → G x old new
      → HaveGone (xs ++ x ∷ []) (i + 1) olds (set nows i new)
  one_gone xs i olds nows x old new gone here there is this =
      let split : get_or nows i old ∷ drop (i + 1) nows ≡ get_or olds i old ∷ drop (i + 1) olds = sym (drop_more nows i old here) ∙ gone.left ∙ drop_more olds i old there in
      let was : old ≡ get_or olds i old = is ∙ head_is _ _ _ _ split in
      record {
        each = subst (λ l. Each G (xs ++ x ∷ []) l (take (i + 1) (set nows i new))) (ap (λ h. take i olds ++ h ∷ []) was ∙ sym (take_more olds i old there))
            (subst (Each G (xs ++ x ∷ []) (take i olds ++ old ∷ [])) (sym (take_more_set nows i new here))
            (each_more xs (take i olds) (take i nows) x old new gone.each this));
        left = drop-set-lt (i + 1) nows i new (omega arith) ∙ tail_is _ _ _ _ split;
      }

  pub all_gone : (xs : List X) (i : ℕ) (olds nows : List ShardHeld) → HaveGone xs i olds nows → length olds ≤ i → length nows ≤ i → Each G xs olds nows
  all_gone xs i olds nows gone many many_now =
      subst (λ l. Each G xs l nows) (take_all i olds many) (subst (Each G xs (take i olds)) (take_all i nows many_now) gone.each)

module _ {X : Type 0} (G H : X → ShardHeld → ShardHeld → Type 0) where
  pub each_weaker : (xs : List X) (olds news : List ShardHeld) → ((x : X) (old new : ShardHeld) → G x old new → H x old new) → Each G xs olds news → Each H xs olds news
  each_weaker [] [] [] f each = tt
  each_weaker (x ∷ xs) (o ∷ os) (n ∷ ns) f each = (f x o n each.0, each_weaker xs os ns f each.1)
  each_weaker [] [] (n ∷ ns) f each = absurd each
  each_weaker [] (o ∷ os) ns f each = absurd each
  each_weaker (x ∷ xs) [] ns f each = absurd each
  each_weaker (x ∷ xs) (o ∷ os) [] f each = absurd each

-- one shard goes on at its place
pub goes_at : (G : ShardHeld → ShardHeld → Type 0) (place : ℕ) (olds : List ShardHeld) (old new : ShardHeld) → place < length olds → old ≡ get_or olds place old → G old new → GoesAt G place olds (set olds place new)
goes_at G place olds old new here is goes =
    record { old = old; new = new; there = slice_get-get_or olds place old here ∙ ap Some (sym is); goes_on = goes; left = refl }

-- ---- what is held of seats, one after another

module _ {S : Type 0} (h : S → ShardHeld) (seats : List S) (i : ℕ) (seat d : S) (here : i < length seats) (is : seat ≡ get_or seats i d) where
  pub held_here : i < length (map h seats)
  held_here = subst (λ n. i < n) (sym (length-map seats h)) here

  pub held_at : h seat ≡ get_or (map h seats) i (h seat)
  held_at = ap h is ∙ sym (get_or-map h seats i d (h seat) here)

  -- something of one more
  pub told_more : {Y : Type 0} (f : ShardHeld → Y) (told new : List Y) (y : Y) → told ≡ map f (take i (map h seats)) → new ≡ told ++ y ∷ [] → y ≡ f (h seat) → new ≡ map f (take (i + 1) (map h seats))
  told_more f told new y so_far more of_it =
      more ∙ ap (λ l. l ++ y ∷ []) so_far ∙ ap (λ x. map f (take i (map h seats)) ++ x ∷ []) (of_it ∙ ap f held_at) ∙ sym (map_more f (map h seats) i (h seat) held_here)

  -- the first of them, and this one
  pub first_more : take (i + 1) (map h seats) ≡ take i (map h seats) ++ h seat ∷ []
  first_more = take_more (map h seats) i (h seat) held_here ∙ ap (λ x. take i (map h seats) ++ x ∷ []) (sym held_at)

-- ---- a list that was lent as a slice

pub written_back : {X : Type 0} (len : ℕ) (old new : List X) → len ≡ length old → length new ≡ length old → take len (new ++ drop (length new) old) ≡ new
written_back len old new all same = ap (λ n. take n (new ++ drop (length new) old)) (all ∙ sym same) ∙ take-append_seam new (drop (length new) old)
