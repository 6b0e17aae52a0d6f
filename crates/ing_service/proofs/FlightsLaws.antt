-- Tickets: their chunks stay in flight until they are settled, and are settled by their uploads.
use Rattle.std.proofs.Common.{◌≡◌, ◌≢◌, ◌∙◌, ⊎_elim, ℕ, suc, zero, ◌+◌, ◌-◌, ◌<◌, All, AllPairs, List, [], ◌∷◌, ◌++◌, append_assoc, Option, Some, None, length, get_or, set, map, reverse, ap, arith, refl, sym, subst}
use Rattle.std.proofs.lemmas.Bool.{cases_eq, cases_lt}
use Rattle.std.proofs.lemmas.List.{get_or-reverse, get_or-set_same, get_or-set_other, get_or_append_left, get_or_push, length-append, length-reverse, map-append, reverse-append}
use Rattle.std.proofs.lemmas.List.Sums.{sum_by_push}
use Rattle.ing_durable.specs.Contents.{Contents}
use Rattle.ing_durable.specs.Flights.{FlightsStay, Flown, IsInFlight}
use Rattle.ing_service.specs.Ends.{lost_by}
use Rattle.ing_service.specs.Flushes.{Settled, failed_among, failed_by, settled_as, stored_among, stored_by}
use Rattle.ing_service.specs.Flying.{AreApart, FliesIn}

-- ---- lists

module _ {X : Type 0} (R : X → X → Type 0) where
  -- one more behind those of which it is apart
  pub pairs_push : (xs : List X) (x : X) → AllPairs R xs → All (λ y. R y x) xs → AllPairs R (xs ++ x ∷ [])
  pairs_push xs x pairs this i j d less within =
      let long = length-append xs (x ∷ []) in
      let left : get_or (xs ++ x ∷ []) i d ≡ get_or xs i d = get_or_append_left xs (x ∷ []) d i (omega (arith, less, within, long)) in
      ⊎_elim
      (λ before. subst (λ y. R y (get_or (xs ++ x ∷ []) j d)) (sym left) (subst (R (get_or xs i d)) (sym (get_or_append_left xs (x ∷ []) d j before)) (pairs i j d less before)))
      (λ last.
      let at : length xs ≡ j = omega (arith, within, long, last) in
      subst (λ y. R y (get_or (xs ++ x ∷ []) j d)) (sym left) (subst (R (get_or xs i d)) (sym (get_or_push xs x d j at)) (this i d (omega (arith, less, at)))))
      (cases_lt j (length xs))

  -- the last, and those before it
  pub pairs_split : (xs : List X) (x : X) → AllPairs R (xs ++ x ∷ []) → AllPairs R xs × All (λ y. R y x) xs
  pairs_split xs x pairs =
      let long = length-append xs (x ∷ []) in (
        λ i j d less lt. subst (λ y. R y (get_or xs j d)) (get_or_append_left xs (x ∷ []) d i (omega (arith, less, lt)))
            (subst (λ y. R (get_or (xs ++ x ∷ []) i d) y) (get_or_append_left xs (x ∷ []) d j lt) (pairs i j d less (omega (arith, lt, long)))),
        λ k d lt. subst (λ y. R y x) (get_or_append_left xs (x ∷ []) d k lt)
            (subst (λ y. R (get_or (xs ++ x ∷ []) k d) y) (get_or_push xs x d (length xs) refl) (pairs k (length xs) d lt (omega (arith, long)))),
      )

  -- the other way round
  pub pairs_reversed : ((x y : X) → R x y → R y x) → (xs : List X) → AllPairs R xs → AllPairs R (reverse xs)
  pairs_reversed other xs pairs i j d less within =
      let long = length-reverse xs in
      subst (λ x. R x (get_or (reverse xs) j d)) (sym (get_or-reverse xs i d (omega (arith, less, within, long))))
      (subst (R (get_or xs (length xs - 1 - i) d)) (sym (get_or-reverse xs j d (omega (arith, within, long))))
      (other _ _ (pairs (length xs - 1 - j) (length xs - 1 - i) d (omega (arith, less, within, long)) (omega (arith, less, within, long)))))

pub all_reversed : {X : Type 0} (P : X → Type 0) (xs : List X) → All P xs → All P (reverse xs)
all_reversed P xs all k d lt =
    let long = length-reverse xs in
    subst P (sym (get_or-reverse xs k d (omega (arith, lt, long)))) (all (length xs - 1 - k) d (omega (arith, lt, long)))

-- ---- chunks in flight

pub apart_too : (f g : Flown) → AreApart f g → AreApart g f
apart_too f g apart = λ same is. apart (sym same) (sym is)

-- one shard goes on
module _ (shards : List Contents) (i : ℕ) (old new : Contents) (here : i < length shards) (is : old ≡ get_or shards i old) where
  at_it : (d : Contents) → get_or shards i d ≡ old
  at_it d = same_default shards i d old here ∙ sym is
    where
      same_default : {X : Type 0} (xs : List X) (k : ℕ) (d e : X) → k < length xs → get_or xs k d ≡ get_or xs k e
      same_default [] k d e lt = absurd (omega (arith, lt))
      same_default (x ∷ xs) zero d e lt = refl
      same_default (x ∷ xs) (suc k) d e lt = same_default xs k d e (omega (arith, lt))

  pub flies_on : (f : Flown) → FliesIn shards f → (f.shard ≡ i → IsInFlight f old → IsInFlight f new) → FliesIn (set shards i new) f
  flies_on f flies stays d =
      ⊎_elim
      (λ same. subst (λ k. IsInFlight f (get_or (set shards i new) k d)) (sym same)
      (subst (IsInFlight f) (sym (get_or-set_same shards i new d here)) (stays same (subst (IsInFlight f) (ap (λ k. get_or shards k d) same ∙ at_it d) (flies d)))))
      (λ other. subst (IsInFlight f) (sym (get_or-set_other shards i f.shard new d other)) (flies d))
      (cases_eq f.shard i)

  pub flies_here : (f : Flown) → f.shard ≡ i → FliesIn shards f → IsInFlight f old
  flies_here f same flies = subst (IsInFlight f) (ap (λ k. get_or shards k old) same ∙ at_it old) (flies old)

  pub flies_new : (f : Flown) → f.shard ≡ i → IsInFlight f new → FliesIn (set shards i new) f
  flies_new f same flies d = subst (λ k. IsInFlight f (get_or (set shards i new) k d)) (sym same) (subst (IsInFlight f) (sym (get_or-set_same shards i new d here)) flies)

  module _ {T : Type 0} (of : T → Flown) (tickets : List T) (fly : All (λ t. FliesIn shards (of t)) tickets) where
    -- what is in flight stays there at a claim
    pub all_stay : FlightsStay old new → All (λ t. FliesIn (set shards i new) (of t)) tickets
    all_stay stay k d lt = flies_on (of (get_or tickets k d)) (fly k d lt) (λ same flies. stay (of (get_or tickets k d)) flies)

    -- and what is claimed is apart from it
    pub all_apart : (t : T) → (of t).shard ≡ i → ((f : Flown) → IsInFlight f old → f.flight ≢ (of t).flight) → All (λ u. AreApart (of u) (of t)) tickets
    all_apart t at apart k d lt same = apart (of (get_or tickets k d)) (flies_here (of (get_or tickets k d)) (same ∙ at) (fly k d lt))

-- ---- what is settled

failed_as : {T : Type 0} (c : Flown) (u : Option T) → failed_by (settled_as c u) ≡ lost_by u
failed_as c None = refl
failed_as c (Some x) = refl

stored_as : {T : Type 0} (c : Flown) (u : Option T) → failed_by (settled_as c u) + stored_by (settled_as c u) ≡ 1
stored_as c None = refl
stored_as c (Some x) = refl

-- the chunks that are settled so far, and this one; those still to be settled stand in tickets, the last first
module _ {T U : Type 0} (of : T → Flown) (settled : List Settled) (tickets left : List T) (t : T) (is : tickets ≡ left ++ t ∷ []) (upload : Option U) where
  pub chunks_more : (all : List Flown) → map (λ (s : Settled). s.chunk) settled ++ map of (reverse tickets) ≡ all
      → map (λ (s : Settled). s.chunk) (settled ++ settled_as (of t) upload ∷ []) ++ map of (reverse left) ≡ all
  chunks_more all so_far =
      ap (λ l. l ++ map of (reverse left)) (map-append (λ (s : Settled). s.chunk) settled (settled_as (of t) upload ∷ []))
      ∙ append_assoc (map (λ (s : Settled). s.chunk) settled) (of t ∷ []) (map of (reverse left))
      ∙ sym (ap (λ l. map (λ (s : Settled). s.chunk) settled ++ map of l) (ap reverse is ∙ reverse-append left (t ∷ []))) ∙ so_far

pub failed_more : {U : Type 0} (settled : List Settled) (c : Flown) (upload : Option U) → failed_among (settled ++ settled_as c upload ∷ []) ≡ failed_among settled + lost_by upload
failed_more settled c upload = sum_by_push failed_by settled (settled_as c upload) ∙ ap (λ n. failed_among settled + n) (failed_as c upload)

pub both_more : {U : Type 0} (settled : List Settled) (c : Flown) (upload : Option U)
    → failed_among (settled ++ settled_as c upload ∷ []) + stored_among (settled ++ settled_as c upload ∷ []) ≡ failed_among settled + stored_among settled + 1
both_more settled c upload =
    omega (arith, sum_by_push failed_by settled (settled_as c upload), sum_by_push stored_by settled (settled_as c upload), stored_as c upload)

-- what is settled in one round, and before it
pub chunks_then : {T : Type 0} (of : T → Flown) (settled more : List Settled) (tickets left : List T) (all : List Flown) → map (λ (s : Settled). s.chunk) settled ++ map of (reverse tickets) ≡ all
    → map (λ (s : Settled). s.chunk) more ++ map of (reverse left) ≡ map of (reverse tickets) → map (λ (s : Settled). s.chunk) (settled ++ more) ++ map of (reverse left) ≡ all
chunks_then of settled more tickets left all so_far then =
    ap (λ l. l ++ map of (reverse left)) (map-append (λ (s : Settled). s.chunk) settled more)
    ∙ append_assoc (map (λ (s : Settled). s.chunk) settled) (map (λ (s : Settled). s.chunk) more) (map of (reverse left))
    ∙ ap (λ l. map (λ (s : Settled). s.chunk) settled ++ l) then ∙ so_far
