-- Which growing chunks are sealed, and which operations there are then.
-- What names no section of the Loki documentation is own.
use Rattle.std.specs.Prelude.{◌≡◌, ℕ, ◌+◌, Bool, List, [], ◌∷◌, ◌++◌, ◌<◌, true, length, sum_by, is_some, replicate, if◌then◌else◌, Option, Some, None}
use Rattle.std.specs.List.{list_any}
use Rattle.ing_rows.specs.declared.place.SealReason.{SealReason}
use Rattle.ing_rows.specs.declared.place.SealReason.TheVariants as reason
use Rattle.ing_rows.specs.declared.rules.Rules.{Rules}
use Rattle.ing_rows.specs.Rows.{StreamKey, Row, Mark, State, IsSame}
use Rattle.ing_rows.specs.Steps.{due_of, is_growing, sealed_by}
use Rattle.ing_rows.specs.Events.{Event, Sweep, SealAll, sealed_count}
use Rattle.ing_rows.specs.Claims.{claimable_count}
use Rattle.ing_chunk.specs.Chunks.{growing_due}
use Rattle.ing_logged.specs.LoggedRecords.{StreamSeal}
use Rattle.ing_replay.specs.Records.{names_of}
use Rattle.ing_checkpoint.specs.Contents.{StreamContents, named_as}
use Rattle.ing_shard.specs.declared.sealing.Op.{Op}
use Rattle.ing_shard.specs.declared.sealing.Sealing.{Sealing}
use Rattle.ing_shard.specs.declared.sealing.Sealing.TheVariants.{Due, Forced}
use Rattle.ing_shard.specs.OneStream.{Stream}
use Rattle.ing_shard.specs.Streams.{key_of, part_of}

-- ---- operations

abbrev pub op : ℕ → ℕ → Op
op shard stream = record { shard = shard; stream = stream }

-- one operation for each chunk of these streams that can be claimed, by stream; the first has this number
abbrev pub ops_from : ℕ → ℕ → List StreamKey → State → List Op
ops_from shard number [] st = []
ops_from shard number (s ∷ ss) st = replicate (claimable_count s st) (op shard number) ++ ops_from shard (number + 1) ss st

-- ---- why chunks are sealed

-- why the chunk of a mark is sealed, by the rules of its tenant
abbrev pub why_by : Sealing → Rules → List Row → Mark → Option SealReason
why_by (Due now) rules rows m = due_of rules now rows m
why_by Forced rules rows m = Some reason.Forced

-- by the rules of each tenant, which are told by the tenants' bytes
abbrev pub why_of : Sealing → (List ℕ → Rules) → List Row → Mark → Option SealReason
why_of which rules rows m = why_by which (rules m.stream.tenant) rows m

-- the state after these chunks are sealed
abbrev pub sealed_of : Sealing → (List ℕ → Rules) → State → State
sealed_of which rules st = sealed_by (why_of which rules st.rows) st

-- how many are
abbrev pub count_sealed : Sealing → (List ℕ → Rules) → State → ℕ
count_sealed which rules st = sealed_count (why_of which rules st.rows) st.marks

-- as an event of the model
abbrev pub event_of : Sealing → Event
event_of (Due now) = Sweep now
event_of Forced = SealAll

-- ---- one stream

-- a chunk of the stream grows
abbrev pub grows : State → StreamKey → Bool
grows st s = list_any (is_growing s) st.marks

-- its growing chunk is one of these
abbrev pub is_sealing : Sealing → Rules → StreamContents → Bool
is_sealing (Due now) rules c = is_some (growing_due rules now c.memory)
is_sealing Forced rules c = is_some c.memory.growing

-- why it is sealed then
abbrev pub reason_of : Sealing → Rules → StreamContents → Option SealReason
reason_of (Due now) rules c = growing_due rules now c.memory
reason_of Forced rules c = if is_some c.memory.growing then Some reason.Forced else None

-- What is sealed of a stream is its growing chunk, for this reason; and a stream with a growing chunk has an entry.
pub record IsNamed (which : Sealing) (rules : Rules) (st : Stream) : Type 0 where
  pub names : names_of (why_by which rules (part_of st).rows) (part_of st).marks ≡ named_as (key_of st) (reason_of which rules st.chunks)
  pub begun : is_sealing which rules st.chunks ≡ true → 0 < st.chunks.memory.next

-- a stream, before and after its growing chunk is sealed where it is one of these
pub record IsSealed (which : Sealing) (rules : Rules) (old new : Stream) : Type 0 where
  pub tenant : new.tenant ≡ old.tenant
  pub labels : new.labels ≡ old.labels
  pub next : new.chunks.memory.next ≡ old.chunks.memory.next
  pub claimed : new.chunks.sealed ≡ old.chunks.sealed
  pub state : IsSame (part_of new) (sealed_by (why_by which rules (part_of old).rows) (part_of old))
  pub counts : sealed_count (why_by which rules (part_of old).rows) (part_of old).marks ≡ (if is_sealing which rules old.chunks then 1 else 0)
  pub waiting : claimable_count (key_of new) (part_of new) ≡ claimable_count (key_of old) (part_of old) + (if is_sealing which rules old.chunks then 1 else 0)

-- ---- all streams

-- each of them, one after another
abbrev pub AreSealed : Sealing → (List ℕ → Rules) → List Stream → List Stream → Type 0
AreSealed which rules [] [] = Unit {0}
AreSealed which rules (old ∷ olds) (new ∷ news) = IsSealed which (rules old.tenant) old new × AreSealed which rules olds news
AreSealed which rules [] (new ∷ news) = ⊥
AreSealed which rules (old ∷ olds) [] = ⊥

-- how many of them have a growing chunk that is sealed
abbrev pub sealed_among : Sealing → (List ℕ → Rules) → List Stream → ℕ
sealed_among which rules sts = sum_by (λ st. if is_sealing which (rules st.tenant) st.chunks then 1 else 0) sts

-- one stream of the list is sealed, where it is one of these
pub record SealsOne (which : Sealing) (rules : List ℕ → Rules) (front : List Stream) (st : Stream) (back news : List Stream) : Type 0 where
  pub now : Stream
  pub is : news ≡ front ++ now ∷ back
  pub sealed : IsSealed which (rules st.tenant) st now

-- so many of them are sealed
pub record AreSealedTo (which : Sealing) (rules : List ℕ → Rules) (number : ℕ) (olds news : List Stream) : Type 0 where
  pub done : List Stream
  pub left : List Stream
  pub sealed : List Stream
  pub was : olds ≡ done ++ left
  pub is : news ≡ sealed ++ left
  pub at : length done ≡ number
  pub each : AreSealed which rules done sealed

-- the seals of a log: each stream whose growing chunk is one of these, with the reason
abbrev pub seal_as : StreamKey → Option SealReason → List StreamSeal
seal_as s None = []
seal_as s (Some why) = record { stream = s; reason = why } ∷ []

abbrev pub seals_among : Sealing → (List ℕ → Rules) → List Stream → List StreamSeal
seals_among which rules [] = []
seals_among which rules (st ∷ sts) = seal_as (key_of st) (reason_of which (rules st.tenant) st.chunks) ++ seals_among which rules sts

-- a seal, as the model names it
abbrev pub name_in : StreamSeal → StreamKey × SealReason
name_in x = (x.stream, x.reason)

-- the operations there are once the growing chunks are sealed
abbrev pub ops_after : ℕ → Sealing → (List ℕ → Rules) → ℕ → List Stream → List Op
ops_after shard which rules number [] = []
ops_after shard which rules number (st ∷ sts) =
    replicate (claimable_count (key_of st) (part_of st) + (if is_sealing which (rules st.tenant) st.chunks then 1 else 0)) (op shard number)
    ++ ops_after shard which rules (number + 1) sts
