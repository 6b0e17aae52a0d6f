-- How an event turns a world, and what is answered.
-- What names no section of the Loki documentation is own.
use Rattle.std.specs.Prelude.{◌≡◌, ◌≢◌, ℕ, ◌<◌, ◌^◌, Bool, true, false, List, [], ◌∷◌, ◌++◌, map, filter, length, IsPermutation, slice_get, Option, Some, None}
use Rattle.std.specs.Option.{option_map}
use Rattle.sha2.specs.Sha256.{sha256}
use Rattle.ing_codec.specs.ChunkObjects.{chunk_text}
use Rattle.ing_labels.specs.Canonical.{canonical_of}
use Rattle.ing_labels.specs.Selectors.{Match}
use Rattle.ing_parts.specs.declared.found.Found.{Found}
use Rattle.ing_parts.specs.Answers.{IsAnswer}
use Rattle.ing_parts.specs.Parts.{within}
use Rattle.ing_parts.specs.Questions.{Question, question_view}
use Rattle.ing_rows.specs.declared.entry.Entry.{Entry}
use Rattle.ing_rows.specs.declared.rules.Rules.{Rules}
use Rattle.ing_rows.specs.Events as events
use Rattle.ing_rows.specs.Events.{Event, Push, Sweep, SealAll, Claim, Finish, GiveBack, Judged, Claimed, NothingToClaim, Step, accepted_by}
use Rattle.ing_rows.specs.Gauges.{StandsOnce}
use Rattle.ing_rows.specs.Kept.{Numbered, numbered}
use Rattle.ing_rows.specs.Rows.{StreamKey, State, count_of}
use Rattle.ing_rows.specs.Turns.{accepted_among}
use Rattle.ing_tally.specs.Books.{BookName}
use Rattle.ing_shard.specs.Contents.{listed_after, stream_of}
use Rattle.ing_shard.specs.Flights.{Flown, FliesAs, key_in, object_in}
use Rattle.ing_shard.specs.Picked.{Picks}
use Rattle.ing_world.specs.declared.event.Object.{Object}
use Rattle.ing_world.specs.declared.event.Outcome.{Outcome}
use Rattle.ing_world.specs.declared.event.Outcome.TheVariants as outcome
use Rattle.ing_world.specs.declared.event.WorldEvent.{WorldEvent}
use Rattle.ing_world.specs.declared.event.WorldEvent.TheVariants as event
use Rattle.ing_world.specs.declared.reply.Reply.{Reply}
use Rattle.ing_world.specs.declared.reply.Reply.TheVariants as reply
use Rattle.ing_world.specs.Worlds.{OpenState, WorldState, Becomes, open_at, opened, is_ready, with_object}

-- the step of the model that a turn is, where it is one
abbrev pub ModelStep : Type 0
ModelStep = Option (Event × events.Reply)

-- what may be answered: by the reply, the world before and after, and the step of the model that it is
abbrev pub Tale : Type 1
Tale = Reply → WorldState → WorldState → ModelStep → Type 0

-- no ticket is opened or closed, and none has one receipt more
abbrev pub TicketsStay : WorldState → WorldState → Type 0
TicketsStay old new = new.tickets ≡ old.tickets

-- ---- what is answered to each event

abbrev pub TellsPush : StreamKey → ℕ → List Entry → Tale
TellsPush s now es (reply.Pushed vs) old new step = (step ≡ Some (Push s now es, Judged vs.items)) × TicketsStay old new
TellsPush s now es reply.TooManyEntries old new step = (step ≡ Some (Push s now es, events.TooManyEntries)) × TicketsStay old new
TellsPush s now es reply.CounterFull old new step = (step ≡ Some (Push s now es, events.CounterFull)) × TicketsStay old new
TellsPush s now es _ old new step = ⊥

-- a sweep, or all is sealed
abbrev pub TellsSeal : Event → Tale
TellsSeal seal (reply.Sealed n) old new step = (step ≡ Some (seal, events.Sealed n)) × TicketsStay old new
TellsSeal seal _ old new step = ⊥

-- no chunk of the stream can be claimed
abbrev pub none_claimed : StreamKey → Event × events.Reply
none_claimed s = (Claim s, NothingToClaim)

-- the chunk that is claimed is the one whose rows go into flight; nothing is answered where no chunk of the stream waits, or no
-- stream has the number
abbrev pub TellsClaim : ℕ → Tale
TellsClaim n (reply.Claimed first) old new step =
    (f : Flown) × (book : BookName) × (slice_get old.listed n ≡ Some (key_in f)) × (first ≡ f.chunk.first)
    × (step ≡ Some (Claim (key_in f), Claimed f.chunk.first f.flight))
    × FliesAs f new.state × (new.tickets ≡ old.tickets ++ Some (opened f book) ∷ [])
TellsClaim n reply.Nothing old new step = (step ≡ option_map none_claimed (slice_get old.listed n)) × TicketsStay old new
TellsClaim n _ old new step = ⊥

-- a put of a ticket that is open or not: a receipt is kept exactly where the put answers that it stored
abbrev pub Puts : ℕ → Object → Outcome → Option OpenState → Reply → List (Option OpenState) → List (Option OpenState) → Type 0
Puts t object out None reply.Nothing old new = new ≡ old
Puts t object out (Some o) reply.Stored old new = (out ≡ outcome.Stored) × Becomes t (Some (with_object object o)) old new
Puts t object out (Some o) reply.Failed old new = (out ≢ outcome.Stored) × (new ≡ old)
Puts t object out _ _ old new = ⊥

abbrev pub TellsPut : ℕ → Object → Outcome → Tale
TellsPut t object out told old new step = (step ≡ None) × Puts t object out (open_at old.tickets t) told old.tickets new.tickets

-- the chunk is stored under the key of its text, with both receipts, and its ticket is closed
abbrev pub TellsFinish : ℕ → Tale
TellsFinish t reply.Finished old new step =
    (o : OpenState) × (open_at old.tickets t ≡ Some o) × (is_ready (Some o) ≡ true)
    × (step ≡ Some (Finish (key_in o.flown) o.flown.chunk.first o.flown.flight (sha256 (chunk_text (object_in o.flown))), events.Finished))
    × Becomes t None old.tickets new.tickets
TellsFinish t reply.Nothing old new step = (is_ready (open_at old.tickets t) ≡ false) × (step ≡ None) × TicketsStay old new
TellsFinish t _ old new step = ⊥

abbrev pub TellsGiveBack : ℕ → Tale
TellsGiveBack t reply.GivenBack old new step =
    (o : OpenState) × (open_at old.tickets t ≡ Some o)
    × (step ≡ Some (GiveBack o.flown.flight, events.GivenBack))
    × Becomes t None old.tickets new.tickets
TellsGiveBack t reply.Nothing old new step = (open_at old.tickets t ≡ None) × (step ≡ None) × TicketsStay old new
TellsGiveBack t _ old new step = ⊥

-- what a query gives of an accepted entry
abbrev pub found_told : Numbered → Found
found_told n = record { name = n.stream.name; number = n.number; entry = n.entry }

-- all that was accepted before, filtered, put in order and cut
abbrev pub TellsQuery : List ℕ → List Match → Question → Tale
TellsQuery tenant ms q (reply.Found found) old new step =
    (step ≡ None) × TicketsStay old new
    × ((picked : StreamKey → Bool) → Picks tenant ms picked
    → IsAnswer q.order q.limit (within q (map found_told (filter (λ n. picked n.stream) old.accepted))) found.items)
TellsQuery tenant ms q _ old new step = ⊥

-- without a log no checkpoint has replaced it, and nothing changes
abbrev pub TellsCheckpoint : Tale
TellsCheckpoint (reply.Checkpointed published) old new step = (published ≡ false) × (step ≡ None) × TicketsStay old new
TellsCheckpoint _ old new step = ⊥

abbrev pub Tells : WorldEvent → Tale
Tells (event.Push tenant labels entries now) = TellsPush (stream_of tenant labels) now entries.items
Tells (event.Sweep now) = TellsSeal (Sweep now)
Tells event.SealAll = TellsSeal SealAll
Tells (event.Claim n) = TellsClaim n
Tells (event.Put t object out) = TellsPut t object out
Tells (event.Finish t) = TellsFinish t
Tells (event.GiveBack t) = TellsGiveBack t
Tells (event.Query tenant ms q) = TellsQuery tenant ms (question_view q)
Tells event.Checkpoint = TellsCheckpoint

-- ---- one turn, and all of them

-- no step changes nothing
abbrev pub Takes : (List ℕ → Rules) → State → ModelStep → State → Type 0
Takes rules old None new = new ≡ old
Takes rules old (Some step) new = Step rules old step.0 step.1 new

-- a push lists its stream
abbrev pub listed_by : Event → events.Reply → List StreamKey → List StreamKey
listed_by (Push s now es) (Judged vs) listed = listed_after s (accepted_among es vs) listed
listed_by _ _ listed = listed

abbrev pub listed_with : ModelStep → List StreamKey → List StreamKey
listed_with None listed = listed
listed_with (Some step) listed = listed_by step.0 step.1 listed

-- what a step accepts
abbrev pub accepted_with : ModelStep → List Numbered
accepted_with None = []
accepted_with (Some step) = accepted_by step.0 step.1

-- one reply, and what it comes with
pub record Turn (rules : List ℕ → Rules) (tells : Tale) (told : Reply) (old new : WorldState) : Type 0 where
  pub step : ModelStep
  pub tale : tells told old new step
  pub takes : Takes rules old.state step new.state
  pub listed : new.listed ≡ listed_with step old.listed
  pub accepted : new.accepted ≡ old.accepted ++ accepted_with step

-- each number of a stream stands in exactly one place, and what stands is what was answered accepted
pub record StandsInFull (w : WorldState) : Type 0 where
  pub once : (s : StreamKey) → StandsOnce w.state.rows s (count_of w.state.rows s)
  pub kept : IsPermutation (map numbered w.state.rows) w.accepted

-- one turn after another, and after each all stands once
abbrev pub Turns : (List ℕ → Rules) → WorldState → List WorldEvent → List Reply → WorldState → Type 0
Turns rules old [] [] new = new ≡ old
Turns rules old (e ∷ es) (r ∷ rs) new = (mid : WorldState) × Turn rules (Tells e) r old mid × StandsInFull mid × Turns rules mid es rs new
Turns rules old _ _ new = ⊥

-- the canonical name of a stream that is pushed to has fewer than 2^32 bytes
abbrev pub IsShort : WorldEvent → Type 0
IsShort (event.Push tenant labels entries now) = length (canonical_of labels) < 2 ^ 32
IsShort _ = Unit {0}
