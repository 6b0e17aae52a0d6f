-- The claims of a flush, one after another, each in its shard.
use Rattle.std.proofs.Common.{◌≡◌, ◌∙◌, ℕ, ◌+◌, ◌<◌, List, [], ◌∷◌, ◌++◌, length, get_or, take, map, refl, sym, ap, subst, not, Bool, true, false, Some, Err}
use Rattle.std.specs.Prelude.{Option, None, Result, Ok, IfOk, IfSome, IfNone, OnOk, OnErr, is_err, option_map, option_to_list, slice_get}
use Rattle.std.proofs.lemmas.List.{take_more}
use Rattle.std.proofs.lemmas.List.Sorted.{IsPermutation-refl}
use Rattle.ing_rows.specs.declared.rules.Rules.{Rules}
use Rattle.ing_rows.specs.Rows.{IsSame, State, StreamKey}
use Rattle.ing_rows.specs.Events.{Claim, Claimed, NothingToClaim, Step}
use Rattle.ing_durable.specs.Flights.{Flown, key_in}
use Rattle.ing_durable.specs.Op.{Op}
use Rattle.ing_service.specs.Each.{Each, GoesAt}
use Rattle.ing_service.specs.Flushes.{ClaimEach, Claims, ClaimsIn, IsSaved, Settled, SettleEach, SettlesIn, claimed_in}
use Rattle.ing_service.specs.Held.{MayTear, ShardHeld}

pub same_refl : (a : State) → IsSame a a
same_refl a = record { rows = IsPermutation-refl a.rows; marks = IsPermutation-refl a.marks }

-- ---- one claim

module _ (rules : List ℕ → Rules) (op : Op) (old new : ShardHeld) (listed : new.listed ≡ old.listed) (torn : new.torn ≡ old.torn) where
  none_claimed : ((s : StreamKey) → slice_get old.listed op.stream ≡ Some s → Step rules old.state (Claim s) NothingToClaim new.state) → (slice_get old.listed op.stream ≡ None → new.state ≡ old.state)
      → ClaimsIn rules op None old new
  none_claimed none unlisted = record { claims = by (slice_get old.listed op.stream) refl; listed = listed; torn = torn } where
    by : (o : Option StreamKey) → slice_get old.listed op.stream ≡ o → Claims rules o None old.state new.state
    by None is = unlisted is
    by (Some s) is = none s is

  one_claimed : (c : Flown) → slice_get new.listed op.stream ≡ Some (key_in c) → Step rules old.state (Claim (key_in c)) (Claimed c.chunk.first c.flight) new.state → ClaimsIn rules op (Some c) old new
  one_claimed c named step =
      record {
        claims = subst (λ o. Claims rules o (Some c) old.state new.state) (sym (ap (λ l. slice_get l op.stream) (sym listed) ∙ named)) (refl, step);
        listed = listed;
        torn = torn;
      }

  -- whatever it gives
  pub claim_is : {T E : Type 0} (of : T → Flown) (r : Result (Option T) E)
      → IfOk r (λ o. IfSome o (λ t. slice_get new.listed op.stream ≡ Some (key_in (of t))))
      → IfOk r (λ o. IfSome o (λ t. Step rules old.state (Claim (key_in (of t))) (Claimed (of t).chunk.first (of t).flight) new.state))
      → IfOk r (λ o. IfNone o ((s : StreamKey) → slice_get old.listed op.stream ≡ Some s → Step rules old.state (Claim s) NothingToClaim new.state))
      → (slice_get old.listed op.stream ≡ None → new.state ≡ old.state)
      → IfOk r (λ o. ClaimsIn rules op (option_map of o) old new)
  claim_is of (Err e) named step none unlisted = tt
  claim_is of (Ok None) named step none unlisted = none_claimed none unlisted
  claim_is of (Ok (Some t)) named step none unlisted = one_claimed (of t) named step

-- something is known of what it gives
pub given_weaker : {T E : Type 0} (P Q : T → Type 0) (r : Result (Option T) E) → ((t : T) → P t → Q t) → IfOk r (λ o. IfSome o P) → IfOk r (λ o. IfSome o Q)
given_weaker P Q (Err e) f given = tt
given_weaker P Q (Ok None) f given = tt
given_weaker P Q (Ok (Some t)) f given = f t given

-- what is in flight is no stray
pub if_flew : {T E : Type 0} {P Flew : Type 0} (r : Result T E) → OnOk r P → OnErr r (Flew → ⊥) → Flew → P
if_flew (Ok x) done stray flew = done
if_flew (Err e) done stray flew = absurd (stray flew)

pub ok_weaker : {T E : Type 0} {P Q : T → Type 0} (r : Result T E) → ((x : T) → P x → Q x) → IfOk r P → IfOk r Q
ok_weaker (Ok x) f said = f x said
ok_weaker (Err e) f said = tt

-- what is said of a call that went well
pub went_well : {T E P : Type 0} (r : Result T E) → OnOk r P → false ≡ is_err r → P
went_well (Ok x) said well = said
went_well (Err e) said well = absurd (let no : false ≡ true = well in cc)

-- ---- one claim more

module _ (rules : List ℕ → Rules) where
  one_more : (ops : List Op) (cs : List (Option Flown)) (op : Op) (claim : Option Flown) (a b c : List ShardHeld) → ClaimEach rules ops cs a b → GoesAt (ClaimsIn rules op claim) op.shard b c
      → ClaimEach rules (ops ++ op ∷ []) (cs ++ claim ∷ []) a c
  one_more [] [] op claim a b c so_far this = (c, subst (λ x. GoesAt (ClaimsIn rules op claim) op.shard x c) so_far this, refl)
  one_more (p ∷ ps) (q ∷ qs) op claim a b c so_far this = (so_far.0, so_far.1, one_more ps qs op claim so_far.0 b c so_far.2 this)
  one_more [] (q ∷ qs) op claim a b c so_far this = absurd so_far
  one_more (p ∷ ps) [] op claim a b c so_far this = absurd so_far

  -- by the next operation of the list
  pub claim_next : (ops : List Op) (i : ℕ) (item : Op) (cs : List (Option Flown)) (claim : Option Flown) (a b c : List ShardHeld) → item ≡ get_or ops i item → i < length ops
      → ClaimEach rules (take i ops) cs a b → GoesAt (ClaimsIn rules item claim) item.shard b c → ClaimEach rules (take (i + 1) ops) (cs ++ claim ∷ []) a c
  claim_next ops i item cs claim a b c is lt so_far this =
      subst (λ l. ClaimEach rules l (cs ++ claim ∷ []) a c) (ap (λ x. take i ops ++ x ∷ []) is ∙ sym (take_more ops i item lt))
      (one_more (take i ops) cs item claim a b c so_far this)

-- the chunks that were claimed, and this one
pub claimed_more : (cs : List (Option Flown)) (claim : Option Flown) → claimed_in (cs ++ claim ∷ []) ≡ claimed_in cs ++ option_to_list claim
claimed_more [] None = refl
claimed_more [] (Some c) = refl
claimed_more (None ∷ cs) claim = claimed_more cs claim
claimed_more (Some x ∷ cs) claim = ap (λ l. x ∷ l) (claimed_more cs claim)

-- ---- one chunk more is settled

module _ (rules : List ℕ → Rules) where
  pub settle_more : (ss : List Settled) (s : Settled) (a b c : List ShardHeld) → SettleEach rules ss a b → GoesAt (SettlesIn rules s) s.chunk.shard b c → SettleEach rules (ss ++ s ∷ []) a c
  settle_more [] s a b c so_far this = (c, subst (λ x. GoesAt (SettlesIn rules s) s.chunk.shard x c) so_far this, refl)
  settle_more (x ∷ ss) s a b c so_far this = (so_far.0, so_far.1, settle_more ss s so_far.0 b c so_far.2 this)

  pub settle_then : (ss ts : List Settled) (a b c : List ShardHeld) → SettleEach rules ss a b → SettleEach rules ts b c → SettleEach rules (ss ++ ts) a c
  settle_then [] ts a b c so_far then = subst (λ x. SettleEach rules ts x c) so_far then
  settle_then (x ∷ ss) ts a b c so_far then = (so_far.0, so_far.1, settle_then ss ts so_far.0 b c so_far.2 then)

-- where nothing is saved nothing changes
pub none_saved : (nothing : Type 0) (shards : List ShardHeld) → Each (IsSaved nothing) (map (λ (shard : ShardHeld). not shard.torn) shards) shards shards
none_saved nothing [] = tt
none_saved nothing (shard ∷ shards) = (record { told = refl; listed = refl; state = refl; kept = λ whole. whole; left = λ _. refl }, none_saved nothing shards)

-- what is torn stays so
pub may_tear : (old new : Bool) → (old ≡ true → new ≡ true) → MayTear old new
may_tear true new stays = stays refl
may_tear false new stays = tt

pub tears_on : (a b c : Bool) → MayTear a b → MayTear b c → MayTear a c
tears_on true b c first then = subst (λ x. MayTear x c) first then
tears_on false b c first then = tt
