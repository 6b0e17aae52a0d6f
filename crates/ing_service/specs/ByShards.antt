-- What each command does to shards that nobody shares, by the model alone.
use Rattle.std.specs.Prelude.{◌≡◌, ℕ, ◌+◌, ◌-◌, ◌^◌, List, [], ◌∷◌, ◌++◌, length, map, min, sum_by, take, Bool, false, not, nat_lt, if◌then◌else◌, MatchBool, None, Result, Ok, Err, Option}
use Rattle.std.specs.List.{flat_map}
use Rattle.serde_json.specs.Data.{Data}
use Rattle.ing_labels.specs.declared.fault.LabelFault.{LabelFault}
use Rattle.ing_labels.specs.Labels.{LabelMap, labels_of}
use Rattle.ing_labels.specs.TextFaults.{text_refusal_of, text_fault_place}
use Rattle.ing_rows.specs.declared.entry.Entry.{Entry}
use Rattle.ing_rows.specs.declared.rules.Rules.{Rules}
use Rattle.ing_rows.specs.Rows.{StreamKey, Row, State}
use Rattle.ing_rows.specs.Placement.{shard_of}
use Rattle.ing_rows.specs.Events as events
use Rattle.ing_rows.specs.Events.{Event, Judged, SealAll, Sealed, Step, is_full}
use Rattle.ing_rows.specs.Steps.{verdicts_of}
use Rattle.ing_rows.specs.Gauges.{gauges_of}
use Rattle.ing_rows.specs.Turns.{accepted_among}
use Rattle.ing_limits.specs.Settings.{StoreSettings}
use Rattle.ing_limits.specs.Ranges.{rules_for}
use Rattle.ing_durable.specs.Op.{Op}
use Rattle.ing_durable.specs.Contents.{stream_of, stored_count, listed_after}
use Rattle.ing_durable.specs.Sealing.{ops_from}
use Rattle.ing_tally.specs.declared.counts.Counts.{Counts}
use Rattle.ing_tally.specs.declared.report.ShardReport.{ShardReport}
use Rattle.ing_session.specs.Selecting.{page_of}
use Rattle.ing_session.specs.Refusal.TheVariants.{TooManyEntries, CounterFull}
use Rattle.ing_session.specs.Refusal.TheVariants as refusals
use Rattle.ing_commands.specs.Commands.{Command, Push, Sweep, Flush, Gauges, Board, Checkpoint, Query, Catalog}
use Rattle.ing_commands.specs.CatalogCommands.{CatalogCommand}
use Rattle.ing_commands.specs.FlushCommands.{FlushCommand}
use Rattle.ing_commands.specs.GaugesCommands.{GaugesCommand}
use Rattle.ing_commands.specs.PushCommands.{PushCommand, StreamEntries}
use Rattle.ing_commands.specs.QueryCommands.{QueryCommand}
use Rattle.ing_commands.specs.SweepCommands.{SweepCommand}
use Rattle.ing_session.specs.Faults.{label_fault, limits_of}
use Rattle.ing_session.specs.Manners.{Manner}
use Rattle.ing_session.specs.Replies.{fault_data, judged_data, push_data, sweep_data, flush_data, gauges_data, board_data, checkpoint_data, query_data, report_data}
use Rattle.ing_service.specs.declared.seat.ToSeal.{ToSeal}
use Rattle.ing_service.specs.declared.seat.ToSeal.TheVariants.{Due, All}
use Rattle.ing_service.specs.Catalogs.{CatalogMayBe, Listing, listing_reply}
use Rattle.ing_service.specs.Each.{Each, GoesAt}
use Rattle.ing_service.specs.Flushes.{Settled, WorksOff, failed_among, stored_among}
use Rattle.ing_service.specs.Held.{Begun, Held, MayTear, ShardHeld, first_held}
use Rattle.ing_service.specs.Queries.{Answer, Refused, Given, Failed, Damaged, QueryMayBe, failed_of}

-- ---- one stream of a push

-- the stream is refused with this reply, and changes nothing
pub record RefusesStream {H : Type 0} (fault : Data) (old new : H) (reply : Data) : Type 0 where
  pub told : reply ≡ fault
  pub left : new ≡ old

-- In its shard the entries of a stream are judged, and the accepted ones kept: durable where the log is not torn then. A stream is listed
-- with its first accepted entry.
pub record JudgesStream (rules : List ℕ → Rules) (s : StreamKey) (now : ℕ) (es : List Entry) (old new : ShardHeld) (reply : Data) : Type 0 where
  pub told : reply ≡ judged_data s.name (not new.torn) (verdicts_of (rules s.tenant) s now es old.state)
  pub step : Step rules old.state (events.Push s now es) (Judged (verdicts_of (rules s.tenant) s now es old.state)) new.state
  pub listed : new.listed ≡ listed_after s (accepted_among es (verdicts_of (rules s.tenant) s now es old.state)) old.listed
  pub tears : MayTear old.torn new.torn

-- more entries than one push of a stream may have
abbrev pub are_too_many : Rules → List Entry → Bool
are_too_many rules es = nat_lt rules.max_entries_per_push (length es)

-- in its shard, by the rules of its tenant
abbrev pub PushesIn : (List ℕ → Rules) → StreamKey → ℕ → List Entry → ShardHeld → ShardHeld → Data → Type 0
PushesIn rules key now es old new reply =
    MatchBool (are_too_many (rules key.tenant) es)
    (RefusesStream (fault_data TooManyEntries None) old new reply)
    (MatchBool (is_full old.state key (length es))
    (RefusesStream (fault_data CounterFull None) old new reply)
    (JudgesStream rules key now es old new reply))

-- the place of a stream among so many shards
abbrev pub place_of : StreamKey → ℕ → ℕ
place_of key shards = shard_of key.tenant key.name shards

-- by what its labels are found to be, by the rules of its tenant
abbrev pub PushesLabelled : (List ℕ → Rules) → List ℕ → ℕ → StreamEntries → List ShardHeld → List ShardHeld → Data → Result LabelMap LabelFault → Type 0
PushesLabelled rules tenant now s olds news reply (Err fault) = RefusesStream (label_fault fault) olds news reply
PushesLabelled rules tenant now s olds news reply (Ok labels) =
    GoesAt (λ old new. PushesIn rules (stream_of tenant labels) now s.entries old new reply) (place_of (stream_of tenant labels) (length olds)) olds news

abbrev pub PushesStream : (List ℕ → Rules) → List ℕ → ℕ → StreamEntries → List ShardHeld → List ShardHeld → Data → Type 0
PushesStream rules tenant now s olds news reply = PushesLabelled rules tenant now s olds news reply (labels_of (limits_of (rules tenant)) s.labels)

-- ---- the streams of a push, one after another

abbrev pub PushesStreams : (List ℕ → Rules) → List ℕ → ℕ → List StreamEntries → List ShardHeld → List ShardHeld → List Data → Type 0
PushesStreams rules tenant now [] olds news replies = (news ≡ olds) × (replies ≡ [])
PushesStreams rules tenant now (s ∷ ss) olds news replies =
    (mids : List ShardHeld) × (reply : Data) × (others : List Data) × PushesStream rules tenant now s olds mids reply
    × PushesStreams rules tenant now ss mids news others × (replies ≡ reply ∷ others)

-- a push is obeyed
pub record ObeysPush (settings : StoreSettings) (push : PushCommand) (old new : Held) (failed : ℕ) (reply : Data) : Type 0 where
  pub replies : List Data
  pub pushes : PushesStreams (rules_for settings) push.tenant push.now push.streams old.shards new.shards replies
  pub ops : new.ops ≡ old.ops
  pub told : reply ≡ push_data replies
  pub failures : failed ≡ 0

-- ---- seals

-- as an event of the model
abbrev pub event_of : ToSeal → Event
event_of (Due now) = events.Sweep now
event_of All = SealAll

-- In a shard so many growing chunks are sealed by this event; no stream is listed by it.
pub record Seals (settings : StoreSettings) (event : Event) (sealed : ℕ) (old new : ShardHeld) : Type 0 where
  pub step : Step (rules_for settings) old.state event (Sealed sealed) new.state
  pub listed : new.listed ≡ old.listed
  pub tears : MayTear old.torn new.torn

-- the operations that there are where this is held, by the numbers of the shards; the first has this one: one for each sealed chunk that
-- waits
abbrev pub ops_of : ℕ → List ShardHeld → List Op
ops_of number [] = []
ops_of number (shard ∷ shards) = ops_from number 0 shard.listed shard.state ++ ops_of (number + 1) shards

-- a sum that is told up to 2^64-1
abbrev pub told_sum : List ℕ → ℕ
told_sum counts = min (sum_by (λ count. count) counts) (2 ^ 64 - 1)

-- Each shard seals what is due by this event, so many in all, and there are these operations then.
pub record SealEach (settings : StoreSettings) (event : Event) (sealed : ℕ) (ops : List Op) (old new : List ShardHeld) : Type 0 where
  pub counts : List ℕ
  pub each : Each (Seals settings event) counts old new
  pub all : sealed ≡ told_sum counts
  pub there : ops ≡ ops_of 0 new

-- ---- a sweep

-- those of them that find room in the queue behind these operations
abbrev pub room_for : StoreSettings → List Op → List Op → List Op
room_for settings queued ops = take (settings.flush_queue_length - length queued) ops

-- A sweep is obeyed: what is due is sealed, and the operations are queued behind those of earlier sweeps, as many as find room.
pub record ObeysSweep (settings : StoreSettings) (sweep : SweepCommand) (old new : Held) (failed : ℕ) (reply : Data) : Type 0 where
  pub sealed : ℕ
  pub ops : List Op
  pub seals : SealEach settings (events.Sweep sweep.now) sealed ops old.shards new.shards
  pub queued : new.ops ≡ old.ops ++ room_for settings old.ops ops
  pub told : reply ≡ sweep_data (length (room_for settings old.ops ops)) sealed
  pub failures : failed ≡ 0

-- ---- a flush

-- each growing chunk is sealed, and there is an operation for each sealed chunk that waits
pub record SealsAll (settings : StoreSettings) (sealed : ℕ) (old new : Held) : Type 0 where
  pub ops : List Op
  pub seals : SealEach settings SealAll sealed ops old.shards new.shards
  pub queued : new.ops ≡ old.ops ++ ops

-- what is held when its operations begin
abbrev pub BeginsFlush : StoreSettings → Bool → ℕ → Held → Held → Type 0
BeginsFlush settings is_forced sealed old new = MatchBool is_forced (SealsAll settings sealed old new) ((sealed ≡ 0) × (new ≡ old))

-- a flush is obeyed
pub record ObeysFlush (logged : Bool) (settings : StoreSettings) (flush : FlushCommand) (old new : Held) (failed : ℕ) (reply : Data) : Type 0 where
  pub sealed : ℕ
  pub mid : Held
  pub begins : BeginsFlush settings flush.forced sealed old mid
  pub settled : List Settled
  pub works : WorksOff logged settings mid.ops settled mid.shards new.shards
  pub ops : new.ops ≡ []
  pub told : reply ≡ flush_data (failed_among settled) sealed (stored_among settled)
  pub failures : failed ≡ failed_among settled

-- ---- a question for gauges

abbrev pub gauges_reply : GaugesCommand → Held → Data
gauges_reply gauges held = gauges_data (map (λ (shard : ShardHeld). gauges_of shard.state.rows gauges.tenant) held.shards)

-- it is answered, and changes nothing
pub record ObeysGauges (gauges : GaugesCommand) (old new : Held) (failed : ℕ) (reply : Data) : Type 0 where
  pub told : reply ≡ gauges_reply gauges old
  pub left : new ≡ old
  pub failures : failed ≡ 0

-- ---- a question for the counts

-- how many entries were accepted, and how many are stored
abbrev pub counts_of : State → Counts
counts_of st = record { accepted = length st.rows; stored = stored_count st.rows }

abbrev pub board_reply : Held → Data
board_reply held = board_data (map (λ (shard : ShardHeld). counts_of shard.state) held.shards)

-- it is answered, and changes nothing
pub record ObeysBoard (old new : Held) (failed : ℕ) (reply : Data) : Type 0 where
  pub told : reply ≡ board_reply old
  pub left : new ≡ old
  pub failures : failed ≡ 0

-- ---- a checkpoint

-- Where there is a log, a checkpoint is put in the place of all that it has, and it is not torn then, or it is torn; without one nothing is
-- published, and nothing changes.
pub record Publishes (logged published : Bool) (old new : ShardHeld) : Type 0 where
  pub without : logged ≡ false → published ≡ false
  pub left : new ≡ (if logged then record old { torn = not published } else old)

-- a checkpoint of each shard
pub record ObeysCheckpoint (logged : Bool) (old new : Held) (failed : ℕ) (reply : Data) : Type 0 where
  pub published : List Bool
  pub each : Each (Publishes logged) published old.shards new.shards
  pub ops : new.ops ≡ old.ops
  pub told : reply ≡ checkpoint_data published
  pub failures : failed ≡ 0

-- ---- a query

-- the rows of all shards
abbrev pub rows_of : List ShardHeld → List Row
rows_of shards = flat_map (λ (shard : ShardHeld). shard.state.rows) shards

-- how many entries each has accepted
abbrev pub fronts_of : List ShardHeld → List ℕ
fronts_of shards = map (λ (shard : ShardHeld). length shard.state.rows) shards

-- the reply to a query that came to this, where pages are asked for or not
abbrev pub query_reply : Option ℕ → Answer → List ShardHeld → Data
query_reply page (Refused fault) shards = fault_data (text_refusal_of fault) (text_fault_place fault)
query_reply page (Given found) shards = query_data page found (fronts_of shards)
query_reply page Failed shards = fault_data refusals.StoreFault None
query_reply page Damaged shards = fault_data refusals.BadObject None

-- a query is obeyed: it came to this answer, over an end of the store that is honest or not, and changes nothing
pub record ObeysQuery (honest : Type 0) (query : QueryCommand) (old new : Held) (failed : ℕ) (reply : Data) : Type 0 where
  pub answer : Answer
  pub may_be : QueryMayBe honest query answer (rows_of old.shards)
  pub told : reply ≡ query_reply (page_of query) answer old.shards
  pub left : new ≡ old
  pub failures : failed ≡ failed_of answer

-- ---- a question for a catalog

-- it is answered, of the rows of all shards, and changes nothing
pub record ObeysCatalog (catalog : CatalogCommand) (old new : Held) (failed : ℕ) (reply : Data) : Type 0 where
  pub listing : Listing
  pub may_be : CatalogMayBe catalog (rows_of old.shards) listing
  pub told : reply ≡ listing_reply catalog listing
  pub left : new ≡ old
  pub failures : failed ≡ 0

-- ---- one command, by the rules of the tenant that it names

-- From old, a command may be obeyed, over an end of the store that is honest or not, with logs or without, with this reply and so many
-- failed uploads and queries, and leave new.
pub data ObeysCommand (honest : Type 0) (logged : Bool) (settings : StoreSettings) (old new : Held) (failed : ℕ) (reply : Data) : Command → Type 0 where
  Pushes : {push : PushCommand} → ObeysPush settings push old new failed reply → ObeysCommand honest logged settings old new failed reply (Push push)
  Sweeps : {sweep : SweepCommand} → ObeysSweep settings sweep old new failed reply → ObeysCommand honest logged settings old new failed reply (Sweep sweep)
  Flushes : {flush : FlushCommand} → ObeysFlush logged settings flush old new failed reply → ObeysCommand honest logged settings old new failed reply (Flush flush)
  AsksGauges : {gauges : GaugesCommand} → ObeysGauges gauges old new failed reply → ObeysCommand honest logged settings old new failed reply (Gauges gauges)
  AsksBoard : ObeysBoard old new failed reply → ObeysCommand honest logged settings old new failed reply Board
  Checkpoints : ObeysCheckpoint logged old new failed reply → ObeysCommand honest logged settings old new failed reply Checkpoint
  Queries : {query : QueryCommand} → ObeysQuery honest query old new failed reply → ObeysCommand honest logged settings old new failed reply (Query query)
  Lists : {catalog : CatalogCommand} → ObeysCatalog catalog old new failed reply → ObeysCommand honest logged settings old new failed reply (Catalog catalog)

-- ---- the report

-- What is reported at the end of a shard that began with so many entries: those that were accepted since, and what is not stored is kept.
abbrev pub shard_report : ℕ → State → ShardReport
shard_report recovered st = record {
  accepted = length st.rows - recovered;
  kept = length st.rows - stored_count st.rows;
  recovered = recovered;
  stored = stored_count st.rows;
}

-- of each shard, by what it began with
abbrev pub reports_of : List ℕ → List ShardHeld → List ShardReport
reports_of [] shards = []
reports_of (recovered ∷ others) [] = []
reports_of (recovered ∷ others) (shard ∷ shards) = shard_report recovered shard.state ∷ reports_of others shards

-- ---- shards that nobody shares, over an end of the store that is honest or not: all that they hold is known

abbrev pub by_shards : Type 0 → Begun → Manner
by_shards honest begun = record {
  Held = Held;
  nothing = first_held begun;
  obeys = ObeysCommand honest begun.logged;
  reports = λ held report. report ≡ report_data (reports_of (fronts_of begun.shards) held.shards);
}
