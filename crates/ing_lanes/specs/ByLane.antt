-- What each command of a channel does to shards that lie behind locks, where other channels change them too. What lies there nobody
-- knows, so this says what is known outside: what a line says, the form of its reply, how many entries were told accepted on this
-- channel, by the number of their shard, which ones, where the settings want diaries, and how many chunks were told stored on it.
use Rattle.std.specs.Prelude.{◌≡◌, ◌≢◌, ◌⊎◌, ℕ, ◌+◌, ◌≤◌, All, Bool, false, true, List, [], ◌∷◌, None, Some, Result, Ok, Err, length, slice_get, sum_by, Option}
use Rattle.std.specs.List.{AllPass, flat_map}
use Rattle.std.specs.List.Sorted.{IsSortedBy}
use Rattle.serde_json.specs.Data.{Data}
use Rattle.ing_labels.specs.Labels.{LabelMap, labels_of}
use Rattle.ing_labels.specs.Selectors.{Match}
use Rattle.ing_labels.specs.Canonical.{canonical_of}
use Rattle.ing_labels.specs.TextFaults.{IsSelectorFault, text_fault_place, text_refusal_of}
use Rattle.ing_labels.specs.declared.fault.LabelFault.{LabelFault}
use Rattle.ing_labels.specs.declared.text_fault.TextFault.{TextFault}
use Rattle.ing_rows.specs.declared.entry.Entry.{Entry}
use Rattle.ing_rows.specs.declared.gauges.Gauges.{Gauges}
use Rattle.ing_rows.specs.declared.verdict.Verdict.{Verdict}
use Rattle.ing_rows.specs.Placement.{shard_of}
use Rattle.ing_rows.specs.Rows.{Row}
use Rattle.ing_rows.specs.Turns.{accepted_among}
use Rattle.ing_limits.specs.Settings.{StoreSettings}
use Rattle.ing_limits.specs.Ranges.{rules_for}
use Rattle.ing_node.specs.Found.{Found}
use Rattle.ing_node.specs.PartAnswers.{StandApart, precedes}
use Rattle.ing_node.specs.Parts.{is_within}
use Rattle.ing_session.specs.QueryFault.TheVariants as queries
use Rattle.ing_node.specs.Contents.{stream_of}
use Rattle.ing_tally.specs.declared.counts.Counts.{Counts}
use Rattle.ing_node.specs.Tallies.{amount_at}
use Rattle.ing_node.specs.NodeFault.{NodeFault}
use Rattle.ing_node.specs.NodeFault.TheVariants as node
use Rattle.ing_node.specs.declared.query.AnswerFault.{AnswerFault}
use Rattle.ing_node.specs.declared.query.AnswerFault.TheVariants.{Node, Query}
use Rattle.ing_node.specs.AnswerFaults.{IsNoBadAnswer, IsPassedOver, answer_refusal_of}
use Rattle.ing_node.specs.NodeFaults.{refusal_of}
use Rattle.ing_node.specs.Boards.{IsNoLess, no_counts}
use Rattle.ing_node.specs.Catalog.{Asked, IsCatalog}
use Rattle.ing_node.specs.Pushes.{AreJudged, IsPushRefusal}
use Rattle.ing_node.specs.Queries.{AreAnswerOf, AreSelected}
use Rattle.ing_node.specs.Refusals.{IsRoundRefusal}
use Rattle.ing_node.specs.Diaries.{PusherState, notes_kept}
use Rattle.ing_node.specs.Notes.{Note, noted}
use Rattle.ing_commands.specs.CatalogCommands.{CatalogCommand}
use Rattle.ing_commands.specs.Commands as commands
use Rattle.ing_commands.specs.Commands.{Command}
use Rattle.ing_commands.specs.PushCommands.{PushCommand, StreamEntries}
use Rattle.ing_commands.specs.QueryCommands.{QueryCommand}
use Rattle.ing_session.specs.Faults.{label_fault, limits_of}
use Rattle.ing_session.specs.Causes.{HaveCause}
use Rattle.ing_session.specs.Manners.{Manner}
use Rattle.ing_session.specs.Selecting.{AsksBy, IsTextRefused, Reads, page_of, question_of}
use Rattle.ing_session.specs.Replies.{catalog_data, fault_data, judged_data, push_data, sweep_data, flush_data, gauges_data, board_data, checkpoint_data, query_data}

-- How what was told accepted is measured: by how many entries they are of a shard, by its number; or by what all of them weigh, each by
-- its stream, its number, its stamp and its line. With a weight of 1 for one entry and of 0 for any other that is how often it was told.
pub data Measure : Type 0 where
  Entries : ℕ → Measure
  Weight : (Note → ℕ) → Measure

-- what was told accepted, however it is measured
abbrev pub Told : Type 0
Told = Measure → ℕ

-- what a pusher was told, by its shares, and by its diary where it keeps one
abbrev pub told_as : PusherState → Measure → ℕ
told_as pusher (Entries shard) = amount_at shard pusher.told
told_as pusher (Weight weight) = sum_by weight (notes_kept pusher.diary)

abbrev pub told_by : PusherState → Told
told_by pusher = λ measure. told_as pusher measure

-- neither more nor fewer
abbrev pub Stays : Told → Told → Type 0
Stays old new = (measure : Measure) → new measure ≡ old measure

-- Of one shard so many more, and of the others as many. Where the settings want diaries, besides, these are the ones that are told now;
-- where they want none, nothing is said of which they are.
pub record Raises (settings : StoreSettings) (shard count : ℕ) (notes : List Note) (old new : Told) : Type 0 where
  pub here : new (Entries shard) ≡ old (Entries shard) + count
  pub others : (i : ℕ) → i ≢ shard → new (Entries i) ≡ old (Entries i)
  pub which : settings.diaries ≡ true → (weight : Note → ℕ) → new (Weight weight) ≡ old (Weight weight) + sum_by weight notes
  pub unsaid : settings.diaries ≡ false → (weight : Note → ℕ) → new (Weight weight) ≡ old (Weight weight)

-- ---- one stream of a push

-- the shard of a stream
abbrev pub place_of : StoreSettings → List ℕ → LabelMap → ℕ
place_of settings tenant labels = shard_of tenant (canonical_of labels) settings.shards

-- Its entries are judged: the verdicts are the model's, in whatever state the shard was, and of that shard so many more are told as
-- they accept, those under the numbers that they give. Without logs they are not told durable.
pub record JudgesStream (logs : Bool) (settings : StoreSettings) (tenant : List ℕ) (now : ℕ) (labels : LabelMap) (entries : List Entry) (old new : Told) (reply : Data) : Type 0 where
  pub verdicts : List Verdict
  pub judged : AreJudged (rules_for settings tenant) (stream_of tenant labels) now entries verdicts
  pub few : length entries ≤ (rules_for settings tenant).max_entries_per_push
  pub durable : Bool
  pub lasts : logs ≡ false → durable ≡ false
  pub told : reply ≡ judged_data (canonical_of labels) durable verdicts
  pub raised : Raises settings (place_of settings tenant labels) (length (accepted_among entries verdicts)) (noted (stream_of tenant labels) entries verdicts) old new

-- It is refused, and nothing changes.
pub record RefusesStream (settings : StoreSettings) (tenant : List ℕ) (labels : LabelMap) (entries : List Entry) (old new : Told) (reply : Data) : Type 0 where
  pub why : NodeFault
  pub may_be : IsPushRefusal (rules_for settings tenant) (length entries) (place_of settings tenant labels) why
  pub no_memory : why ≢ node.NoMemory
  pub told : reply ≡ fault_data (refusal_of why) None
  pub left : Stays old new

-- by what its labels are found to be
abbrev pub PushesAs : Bool → StoreSettings → List ℕ → ℕ → List Entry → Told → Told → Data → Result LabelMap LabelFault → Type 0
PushesAs logs settings tenant now entries old new reply (Err fault) = (reply ≡ label_fault fault) × Stays old new
PushesAs logs settings tenant now entries old new reply (Ok labels) =
    JudgesStream logs settings tenant now labels entries old new reply ⊎ RefusesStream settings tenant labels entries old new reply

abbrev pub PushesStream : Bool → StoreSettings → List ℕ → ℕ → StreamEntries → Told → Told → Data → Type 0
PushesStream logs settings tenant now s old new reply =
    PushesAs logs settings tenant now s.entries old new reply (labels_of (limits_of (rules_for settings tenant)) s.labels)

-- the streams of a push, one after another
abbrev pub PushesStreams : Bool → StoreSettings → List ℕ → ℕ → List StreamEntries → List Data → Told → Told → Type 0
PushesStreams logs settings tenant now [] [] old new = Stays old new
PushesStreams logs settings tenant now (s ∷ ss) (reply ∷ replies) old new =
    (mid : Told) × PushesStream logs settings tenant now s old mid reply × PushesStreams logs settings tenant now ss replies mid new
PushesStreams logs settings tenant now [] (reply ∷ replies) old new = ⊥
PushesStreams logs settings tenant now (s ∷ ss) [] old new = ⊥

-- a push is obeyed
pub record ObeysPush (logs : Bool) (settings : StoreSettings) (push : PushCommand) (old new : Told) (failed : ℕ) (reply : Data) : Type 0 where
  pub replies : List Data
  pub streams : PushesStreams logs settings push.tenant push.now push.streams replies old new
  pub told : reply ≡ push_data replies
  pub failures : failed ≡ 0

-- ---- what is not known outside the locks

-- a lock was not passed
pub record IsRefused (reply : Data) : Type 0 where
  pub why : NodeFault
  pub told : reply ≡ fault_data (refusal_of why) None

pub record IsSweepReply (reply : Data) : Type 0 where
  pub queued : ℕ
  pub sealed : ℕ
  pub told : reply ≡ sweep_data queued sealed

-- of each shard
pub record IsGaugesReply (settings : StoreSettings) (reply : Data) : Type 0 where
  pub shards : List Gauges
  pub all : length shards ≡ settings.shards
  pub told : reply ≡ gauges_data shards

-- of each shard whether a checkpoint has replaced its log; without logs none has
pub record IsCheckpointReply (logs : Bool) (settings : StoreSettings) (reply : Data) : Type 0 where
  pub published : List Bool
  pub all : length published ≡ settings.shards
  pub none : logs ≡ false → All (λ p. p ≡ false) published
  pub told : reply ≡ checkpoint_data published

-- a reply of this form, or that a lock was not passed
abbrev pub IsForm : (Data → Type 0) → Data → Type 0
IsForm form reply = form reply ⊎ IsRefused reply

-- a command is obeyed by a reply of this form; nothing more is told
pub record ObeysBy (form : Data → Type 0) (old new : Told) (failed : ℕ) (reply : Data) : Type 0 where
  pub may_be : IsForm form reply
  pub left : Stays old new
  pub failures : failed ≡ 0

-- ---- a flush

-- What is held: what was told accepted, how many chunks stored, and what was last told of each shard's counts.
pub record Held : Type 0 where
  pub told : Told
  pub chunks : ℕ
  pub board : ℕ → Counts

abbrev pub nothing_held : Held
nothing_held = record { told = λ _. 0; chunks = 0; board = λ _. no_counts }

-- but for what was told accepted, as much is held
pub record KeepsElse (old new : Held) : Type 0 where
  pub chunks : new.chunks ≡ old.chunks
  pub board : new.board ≡ old.board

-- so many chunks are told stored
pub record IsFlushReply (stored : ℕ) (reply : Data) : Type 0 where
  pub failed : ℕ
  pub sealed : ℕ
  pub told : reply ≡ flush_data failed sealed stored

-- So many more chunks are told stored; or a lock was not passed, and none is.
pub record ObeysFlush (old new : Held) (failed : ℕ) (reply : Data) : Type 0 where
  pub stored : ℕ
  pub may_be : IsFlushReply stored reply ⊎ (IsRefused reply × (stored ≡ 0))
  pub chunks : new.chunks ≡ old.chunks + stored
  pub board : new.board ≡ old.board
  pub left : Stays old.told new.told
  pub failures : failed ≡ 0

-- ---- a question for the counts

-- of each shard so many entries were accepted, and no more are stored
abbrev pub AreOrdered : List Counts → Type 0
AreOrdered shards = (i : ℕ) (counts : Counts) → slice_get shards i ≡ Some counts → counts.stored ≤ counts.accepted

-- It is answered, whoever holds a lock. Of no shard is less told than by an earlier reply.
pub record ObeysBoard (settings : StoreSettings) (old new : Held) (failed : ℕ) (reply : Data) : Type 0 where
  pub shards : List Counts
  pub all : length shards ≡ settings.shards
  pub ordered : AreOrdered shards
  pub later : (i : ℕ) → IsNoLess (old.board i) (new.board i)
  pub known : (i : ℕ) (counts : Counts) → slice_get shards i ≡ Some counts → new.board i ≡ counts
  pub told : reply ≡ board_data shards
  pub left : Stays old.told new.told
  pub chunks : new.chunks ≡ old.chunks
  pub failures : failed ≡ 0

-- ---- a query

-- These entries are given: each is of a stream of the tenant that the text selects and in the range, they stand in their order, each
-- once, and they are not more than the limit. Each shard had accepted at least as many entries as were told of it. Over an honest end
-- of the store they are exactly the first ones that are wanted of the rows that the shards had when they were looked at.
pub record IsGiven (honest : Type 0) (settings : StoreSettings) (query : QueryCommand) (known : Told) (found : List Found) (fronts : List ℕ) : Type 0 where
  pub reads : Reads query.text
  pub selected : AreSelected query.tenant reads.ms found
  pub within : AllPass (is_within (question_of query)) found
  pub in_order : IsSortedBy (precedes query.order) found
  pub most : length found ≤ query.limit
  pub once : StandApart found
  pub all : length fronts ≡ settings.shards
  pub no_less : (i : ℕ) (front : ℕ) → slice_get fronts i ≡ Some front → known (Entries i) ≤ front
  pub wanted : honest → AreAnswerOf query.tenant reads.ms (question_of query) fronts found

-- It is not answered: a lock was not passed, or the store failed; over an honest end no object of it is bad.
pub record IsNotAnswered (honest : Type 0) (settings : StoreSettings) (query : QueryCommand) (fault : AnswerFault) : Type 0 where
  pub reads : Reads query.text
  pub passed : IsPassedOver settings.shards fault
  pub fine : honest → IsNoBadAnswer fault

-- what a query comes to: its text is refused; these entries are given, where the shards had accepted so many; or it is not answered
pub data Answer : Type 0 where
  Refused : TextFault → Answer
  Given : List Found → List ℕ → Answer
  Failed : AnswerFault → Answer

abbrev pub QueryMayBe : Type 0 → StoreSettings → QueryCommand → Told → Answer → Type 0
QueryMayBe honest settings query told (Refused fault) = IsSelectorFault query.text fault
QueryMayBe honest settings query told (Given found fronts) = IsGiven honest settings query told found fronts
QueryMayBe honest settings query told (Failed fault) = IsNotAnswered honest settings query fault

abbrev pub query_reply : Option ℕ → Answer → Data
query_reply page (Refused fault) = fault_data (text_refusal_of fault) (text_fault_place fault)
query_reply page (Given found fronts) = query_data page found fronts
query_reply page (Failed fault) = fault_data (answer_refusal_of fault) None

-- how many queries the store failed
abbrev pub failed_of : Answer → ℕ
failed_of (Refused fault) = 0
failed_of (Given found fronts) = 0
failed_of (Failed (Node fault)) = 0
failed_of (Failed (Query queries.NoMemory)) = 0
failed_of (Failed (Query (queries.StoreFault key))) = 1
failed_of (Failed (Query (queries.BadObject key))) = 0

-- over an end of the store that counts its failures from before to after
pub record CameTo (honest : Type 0) (settings : StoreSettings) (query : QueryCommand) (known : Told) (before after : ℕ) (reply : Data) : Type 0 where
  pub answer : Answer
  pub may_be : QueryMayBe honest settings query known answer
  pub told : reply ≡ query_reply (page_of query) answer
  pub causes : HaveCause before after (failed_of answer)

-- a query is obeyed
pub record ObeysQuery (honest : Type 0) (settings : StoreSettings) (query : QueryCommand) (old new : Told) (failed : ℕ) (reply : Data) : Type 0 where
  pub answer : Answer
  pub may_be : QueryMayBe honest settings query old answer
  pub told : reply ≡ query_reply (page_of query) answer
  pub left : Stays old new
  pub failures : failed ≡ failed_of answer

-- ---- a question for a catalog

-- its text is refused; these texts are listed; or a lock was not passed
pub data Listing : Type 0 where
  NoSelector : TextFault → Listing
  Listed : List (List ℕ) → Listing
  NotListed : NodeFault → Listing

-- what is asked by these matchers
abbrev pub asked_by : CatalogCommand → List Match → Asked
asked_by catalog ms = record { tenant = catalog.tenant; ms = ms; facet = catalog.facet }

-- These texts are exactly what is asked for of the rows that the shards had when they were looked at. Each had accepted at least as many
-- entries as were told of it.
pub record IsListed (settings : StoreSettings) (catalog : CatalogCommand) (known : Told) (texts : List (List ℕ)) : Type 0 where
  pub ms : List Match
  pub asks : AsksBy catalog.text ms
  pub shards : List (List Row)
  pub all : length shards ≡ settings.shards
  pub no_less : (i : ℕ) (rows : List Row) → slice_get shards i ≡ Some rows → known (Entries i) ≤ length rows
  pub lists : IsCatalog (asked_by catalog ms) (flat_map (λ rows. rows) shards) texts

abbrev pub CatalogMayBe : StoreSettings → CatalogCommand → Told → Listing → Type 0
CatalogMayBe settings catalog told (NoSelector fault) = IsTextRefused catalog.text fault
CatalogMayBe settings catalog told (Listed texts) = IsListed settings catalog told texts
CatalogMayBe settings catalog told (NotListed fault) = IsRoundRefusal settings.shards fault

abbrev pub listing_reply : CatalogCommand → Listing → Data
listing_reply catalog (NoSelector fault) = fault_data (text_refusal_of fault) (text_fault_place fault)
listing_reply catalog (Listed texts) = catalog_data catalog.facet texts
listing_reply catalog (NotListed fault) = fault_data (refusal_of fault) None

-- it came to this reply
pub record ListsSo (settings : StoreSettings) (catalog : CatalogCommand) (known : Told) (reply : Data) : Type 0 where
  pub listing : Listing
  pub may_be : CatalogMayBe settings catalog known listing
  pub told : reply ≡ listing_reply catalog listing

-- it is answered, and nothing more is told accepted
pub record ObeysCatalog (settings : StoreSettings) (catalog : CatalogCommand) (old new : Told) (failed : ℕ) (reply : Data) : Type 0 where
  pub came : ListsSo settings catalog old reply
  pub left : Stays old new
  pub failures : failed ≡ 0

-- ---- one command

-- From old, a command may be obeyed, with this reply and so many failed queries, and leave new.
abbrev pub ObeysCommand : Type 0 → Bool → StoreSettings → Held → Held → ℕ → Data → Command → Type 0
ObeysCommand honest logs settings old new failed reply (commands.Push push) =
    ObeysPush logs settings push old.told new.told failed reply × KeepsElse old new
ObeysCommand honest logs settings old new failed reply (commands.Sweep sweep) =
    ObeysBy IsSweepReply old.told new.told failed reply × KeepsElse old new
ObeysCommand honest logs settings old new failed reply (commands.Flush flush) = ObeysFlush old new failed reply
ObeysCommand honest logs settings old new failed reply (commands.Gauges gauges) =
    ObeysBy (IsGaugesReply settings) old.told new.told failed reply × KeepsElse old new
ObeysCommand honest logs settings old new failed reply commands.Board =
    ObeysBoard settings old new failed reply
ObeysCommand honest logs settings old new failed reply commands.Checkpoint =
    ObeysBy (IsCheckpointReply logs settings) old.told new.told failed reply × KeepsElse old new
ObeysCommand honest logs settings old new failed reply (commands.Query query) =
    ObeysQuery honest settings query old.told new.told failed reply × KeepsElse old new
ObeysCommand honest logs settings old new failed reply (commands.Catalog catalog) =
    ObeysCatalog settings catalog old.told new.told failed reply × KeepsElse old new

-- ---- one channel

-- From what its lines were told so far. A channel makes no report: that is one of all.
abbrev pub by_lane : Type 0 → Bool → Manner
by_lane honest logs = record {
  Held = Held;
  nothing = nothing_held;
  obeys = ObeysCommand honest logs;
  reports = λ held report. ⊥;
}
