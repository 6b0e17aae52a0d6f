-- What becomes of the operations that a flush works off, and of the chunks that they claim, each in its shard.
use Rattle.std.specs.Prelude.{◌≡◌, ◌⊎◌, ℕ, Bool, true, false, not, if◌then◌else◌, List, [], ◌∷◌, map, sum_by, slice_get, is_some, Option, Some, None}
use Rattle.sha2.specs.Sha256.{sha256}
use Rattle.ing_store.specs.ChunkObjects.{chunk_text}
use Rattle.ing_rows.specs.declared.rules.Rules.{Rules}
use Rattle.ing_rows.specs.Rows.{StreamKey, State}
use Rattle.ing_rows.specs.Events.{Claim, Finish, GiveBack, Claimed, NothingToClaim, Finished, GivenBack, Step}
use Rattle.ing_limits.specs.Settings.{StoreSettings}
use Rattle.ing_limits.specs.Ranges.{rules_for}
use Rattle.ing_durable.specs.Op.{Op}
use Rattle.ing_durable.specs.Flights.{Flown, key_in, object_in}
use Rattle.ing_session.specs.Causes.{HaveCause}
use Rattle.ing_service.specs.Each.{Each, GoesAt}
use Rattle.ing_service.specs.Held.{MayTear, ShardHeld}

-- What became of a claimed chunk: it is stored, or its upload failed and it waits again. An upload that failed here is one that the store
-- failed: where memory runs out in an upload, its flush is not answered, and the run ends.
pub record Settled : Type 0 where
  pub chunk : Flown
  pub is_stored : Bool

-- by what came of its upload, if anything
abbrev pub settled_as : {T : Type 0} → Flown → Option T → Settled
settled_as c upload = record { chunk = c; is_stored = is_some upload }

-- how many uploads failed
abbrev pub failed_by : Settled → ℕ
failed_by s = if s.is_stored then 0 else 1

-- how many chunks were stored
abbrev pub stored_by : Settled → ℕ
stored_by s = if s.is_stored then 1 else 0

-- of all that were claimed
abbrev pub failed_among : List Settled → ℕ
failed_among = sum_by failed_by

abbrev pub stored_among : List Settled → ℕ
stored_among = sum_by stored_by

-- ---- claims

-- An operation for this stream claims the oldest chunk of it that waits, or none waits; there may be no such stream.
abbrev pub Claims : (List ℕ → Rules) → Option StreamKey → Option Flown → State → State → Type 0
Claims rules None None old new = new ≡ old
Claims rules None (Some c) old new = ⊥
Claims rules (Some s) None old new = Step rules old (Claim s) NothingToClaim new
Claims rules (Some s) (Some c) old new = (key_in c ≡ s) × Step rules old (Claim s) (Claimed c.chunk.first c.flight) new

-- in its shard
pub record ClaimsIn (rules : List ℕ → Rules) (op : Op) (claim : Option Flown) (old new : ShardHeld) : Type 0 where
  pub claims : Claims rules (slice_get old.listed op.stream) claim old.state new.state
  pub listed : new.listed ≡ old.listed
  pub torn : new.torn ≡ old.torn

-- Operations claim so one after another, each in the shard that it names.
abbrev pub ClaimEach : (List ℕ → Rules) → List Op → List (Option Flown) → List ShardHeld → List ShardHeld → Type 0
ClaimEach rules [] [] old new = new ≡ old
ClaimEach rules (op ∷ ops) (claim ∷ claims) old new =
    (mid : List ShardHeld) × GoesAt (ClaimsIn rules op claim) op.shard old mid × ClaimEach rules ops claims mid new
ClaimEach rules [] (claim ∷ claims) old new = ⊥
ClaimEach rules (op ∷ ops) [] old new = ⊥

-- the chunks that were claimed, in their order
abbrev pub claimed_in : List (Option Flown) → List Flown
claimed_in [] = []
claimed_in (None ∷ claims) = claimed_in claims
claimed_in (Some c ∷ claims) = c ∷ claimed_in claims

-- ---- what becomes of them

-- a claimed chunk is stored under the key of its whole text, or given back
abbrev pub Settles : (List ℕ → Rules) → Bool → Flown → State → State → Type 0
Settles rules true c old new = Step rules old (Finish (key_in c) c.chunk.first c.flight (sha256 (chunk_text (object_in c)))) Finished new
Settles rules false c old new = Step rules old (GiveBack c.flight) GivenBack new

-- in its shard; the log may tear
pub record SettlesIn (rules : List ℕ → Rules) (s : Settled) (old new : ShardHeld) : Type 0 where
  pub settles : Settles rules s.is_stored s.chunk old.state new.state
  pub listed : new.listed ≡ old.listed
  pub tears : MayTear old.torn new.torn

-- Claimed chunks are settled so one after another, each in its shard.
abbrev pub SettleEach : (List ℕ → Rules) → List Settled → List ShardHeld → List ShardHeld → Type 0
SettleEach rules [] old new = new ≡ old
SettleEach rules (s ∷ settled) old new =
    (mid : List ShardHeld) × GoesAt (SettlesIn rules s) s.chunk.shard old mid × SettleEach rules settled mid new

-- Operations are worked off: first each claims its chunk, and then, once all uploads have ended, each claimed chunk is settled, in the
-- order of the claims. So a chunk whose upload failed is not tried again by the same flush.
pub record Works (rules : List ℕ → Rules) (ops : List Op) (settled : List Settled) (old new : List ShardHeld) : Type 0 where
  pub claims : List (Option Flown)
  pub claimed : List ShardHeld
  pub each : ClaimEach rules ops claims old claimed
  pub all : map (λ (s : Settled). s.chunk) settled ≡ claimed_in claims
  pub settle : SettleEach rules settled claimed new

-- A torn log may be replaced by a checkpoint, but where nothing is to be saved; nothing else changes. It is told whether the log is whole
-- then.
pub record IsSaved (nothing : Type 0) (whole : Bool) (old new : ShardHeld) : Type 0 where
  pub told : whole ≡ not new.torn
  pub listed : new.listed ≡ old.listed
  pub state : new.state ≡ old.state
  pub kept : old.torn ≡ false → new.torn ≡ false
  pub left : nothing → new.torn ≡ old.torn

-- Operations are worked off so; then torn logs may be replaced by checkpoints, where there are logs and something was stored.
pub record WorksOff (logged : Bool) (settings : StoreSettings) (ops : List Op) (settled : List Settled) (old new : List ShardHeld) : Type 0 where
  pub mid : List ShardHeld
  pub works : Works (rules_for settings) ops settled old mid
  pub whole : List Bool
  pub saved : Each (IsSaved ((logged ≡ false) ⊎ (stored_among settled ≡ 0))) whole mid new

-- a flush worked its operations off: so many uploads failed and so many chunks were stored
pub record IsFlushed (logged : Bool) (settings : StoreSettings) (ops : List Op) (old new : List ShardHeld) (before after failed stored : ℕ) : Type 0 where
  pub settled : List Settled
  pub works : WorksOff logged settings ops settled old new
  pub failures : failed ≡ failed_among settled
  pub successes : stored ≡ stored_among settled
  pub causes : HaveCause before after failed
