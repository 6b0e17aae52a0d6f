-- What several channels came to, served side by side through the same locks, and what was reported of all.
use Rattle.std.specs.Prelude.{◌≡◌, ◌⊎◌, ℕ, ◌+◌, ◌≤◌, Bool, false, true, filter, List, [], ◌∷◌, Option, Some, IfSome, Result, Ok, Err, length, map, slice_get, sum_by, if◌then◌else◌, ⊤}
use Rattle.ing_limits.specs.Settings.{StoreSettings}
use Rattle.ing_refusals.specs.declared.refusal.Refusal.{Refusal}
use Rattle.ing_refusals.specs.declared.refusal.Refusal.TheVariants as refusal
use Rattle.ing_tally.specs.Books.{ShareState, amount_of}
use Rattle.ing_node.specs.Tallies.{amount_at}
use Rattle.ing_node.specs.Worker.{Worker}
use Rattle.ing_node.specs.NodeFault.{NodeFault}
use Rattle.ing_node.specs.NodeFaults.{refusal_of}
use Rattle.ing_node.specs.Diaries.{PusherState}
use Rattle.ing_node.specs.Closed.{ClosedContents}
use Rattle.ing_node.specs.Earlier.{EarlierState, had_at}
use Rattle.ing_node.specs.Fronts.{rows_since}
use Rattle.ing_node.specs.Notes.{Note, is_in_shard, is_note_at, note_of}
use Rattle.ing_rows.specs.Rows.{StreamKey}
use Rattle.ing_node.specs.Refusals.{IsShareRefusal}
use Rattle.ing_node.specs.Reports as closing
use Rattle.ing_node.specs.declared.report.CloseRefusal.{CloseRefusal}
use Rattle.ing_tally.specs.declared.report.ShardReport.{ShardReport}
use Rattle.ing_session.specs.declared.ending.Ending.{Ending}
use Rattle.ing_session.specs.Fronts.{AppendsFront}
use Rattle.ing_session.specs.Runs.{AnswersLines, BreaksOff}
use Rattle.ing_lanes.specs.declared.fault.LanesFault.{LanesFault}
use Rattle.ing_lanes.specs.declared.fault.LanesFault.TheVariants.{NotOpened, NotClosed}
use Rattle.ing_lanes.specs.declared.line.Line.{Line}
use Rattle.ing_lanes.specs.ByLane.{Entries, Held, Measure, Stays, Told, Weight, by_lane, told_as, told_by}
use Rattle.ing_lanes.specs.Counted.{Rises, counted_by}

-- What a channel came to: what it was told accepted, and how many entries its flusher counted as stored.
pub record Account : Type 0 where
  pub told : Told
  pub counted : ℕ

-- The answers to these lines told just as many, and so many chunks stored: for each of them an entry at least is counted, and none where
-- no chunk was.
pub record AreTold (account : Account) (held : Held) : Type 0 where
  pub told : Stays account.told held.told
  pub chunks : held.chunks ≤ account.counted
  pub none : held.chunks ≡ 0 → account.counted ≡ 0

-- they told no more
pub record AreToldAtMost (account : Account) (held : Held) : Type 0 where
  pub told : Rises held.told account.told
  pub chunks : held.chunks ≤ account.counted

-- what is written to a channel for what was read of it, by how it ended: all lines are answered, or a front of the answers to the first
-- ones is written; no clock says anything between them
abbrev pub IsServed : Type 0 → Bool → StoreSettings → Option (List ℕ) → ℕ → ℕ → Option (List ℕ) → Option (List ℕ) → Account → Result (Unit {0}) Ending → Type 0
IsServed honest logs settings known before after old new account (Ok done) =
    IfSome known (λ input. AnswersLines (by_lane honest logs) settings (Some []) (AreTold account) input before after old new)
IsServed honest logs settings known before after old new account (Err e) =
    IfSome known (λ input. BreaksOff (by_lane honest logs) settings (Some []) (AreToldAtMost account) input before after (AppendsFront old new))

-- channel by channel
abbrev pub AreServed : {L : Type 0} → (L → L → Account → Type 0) → List L → List L → List Account → Type 0
AreServed served [] [] [] = ⊤
AreServed served (old ∷ olds) (new ∷ news) (account ∷ accounts) = served old new account × AreServed served olds news accounts
AreServed served [] [] (account ∷ accounts) = ⊥
AreServed served [] (new ∷ news) accounts = ⊥
AreServed served (old ∷ olds) [] accounts = ⊥
AreServed served (old ∷ olds) (new ∷ news) [] = ⊥

-- it broke
abbrev pub has_broken : Result (Unit {0}) Ending → Bool
has_broken (Ok done) = false
has_broken (Err e) = true

-- how many of these channels broke
abbrev pub broken_in : {I O S R : Type 0} → List (Line I O S R) → ℕ
broken_in lines = length (filter (λ line. has_broken line.ended) lines)

-- how many entries are reported stored
abbrev pub stored_in : List ShardReport → ℕ
stored_in reports = sum_by (λ r. r.stored) reports

-- The ledger: of each shard as many entries are reported accepted as all channels were told together, and recovered as it began with, and
-- each of them is stored or kept. Stored are those that were at the beginning, and those that the channels' flushers counted.
pub record AddsUp (shards : ℕ) (earlier : EarlierState) (accounts : List Account) (reports : List ShardReport) : Type 0 where
  pub all : length reports ≡ shards
  pub accepted : (i : ℕ) (r : ShardReport) → slice_get reports i ≡ Some r → r.accepted ≡ sum_by (λ t. t.told (Entries i)) accounts
  pub recovered : (i : ℕ) (r : ShardReport) → slice_get reports i ≡ Some r → r.recovered ≡ amount_at i earlier.told
  pub whole : (i : ℕ) (r : ShardReport) → slice_get reports i ≡ Some r → r.accepted + r.recovered ≡ r.stored + r.kept
  pub stored : stored_in reports ≡ amount_of earlier.stored + sum_by (λ t. t.counted) accounts

-- an entry weighs what it weighs where it has its place in this shard, of so many, and nothing in any other
abbrev pub weight_in : ℕ → ℕ → (Note → ℕ) → Note → ℕ
weight_in shards i weight note = if is_in_shard shards i note then weight note else 0

-- Of each of these shards the rows that came since the beginning, without where they stand, weigh as much as what all channels were told
-- accepted there, however entries are weighed: so they are the same entries, each as often.
abbrev pub HaveWhatWasTold : ℕ → EarlierState → List Account → List ClosedContents → Type 0
HaveWhatWasTold shards earlier accounts closed =
    (i : ℕ) (shard : ClosedContents) (weight : Note → ℕ) → slice_get closed i ≡ Some shard
    → sum_by weight (map note_of (rows_since (had_at earlier i) shard.state.rows)) ≡ sum_by (λ t. t.told (Weight (weight_in shards i weight))) accounts

-- one for an entry of this number of this stream, and nothing for any other
abbrev pub one_at : StreamKey → ℕ → Note → ℕ
one_at s number note = if is_note_at s number note then 1 else 0

-- Whatever the store gave: under each number of each stream stands a row of these exactly where an entry was told accepted under it, and as
-- often.
abbrev pub StandWhereTold : ℕ → EarlierState → List Account → List ClosedContents → Type 0
StandWhereTold shards earlier accounts closed =
    (i : ℕ) (shard : ClosedContents) (s : StreamKey) (number : ℕ) → slice_get closed i ≡ Some shard
    → length (filter (is_note_at s number) (map note_of (rows_since (had_at earlier i) shard.state.rows)))
    ≡ sum_by (λ t. t.told (Weight (weight_in shards i (one_at s number)))) accounts

-- why nothing is read: memory ran out, or a share was not had
abbrev pub IsNotOpened : ℕ → Refusal → Type 0
IsNotOpened shards why = (why ≡ refusal.NoMemory) ⊎ ((fault : NodeFault) × IsShareRefusal shards fault × (why ≡ refusal_of fault))

-- why it is not closed: entries are said not to be settled only where diaries are wanted
abbrev pub HasReason : StoreSettings → CloseRefusal → Type 0
HasReason settings why = closing.HasReason why × (closing.IsUnsettled why → settings.diaries ≡ true)

-- why nothing is reported
abbrev pub IsLanesFault : StoreSettings → LanesFault → Type 0
IsLanesFault settings (NotOpened why) = IsNotOpened settings.shards why
IsLanesFault settings (NotClosed why) = HasReason settings why

-- ---- for private clauses

-- what a channel came to, by its pusher and its flushers
abbrev pub account_of : {S G R : Type 0} → PusherState → List (Worker S G R) → Account
account_of pusher workers = record { told = told_by pusher; counted = counted_by workers }

-- so much was told and counted as these pushers and tallies have, together
pub record Parts (accounts : List Account) (pushers : List PusherState) (tallies : List (List ShareState)) : Type 0 where
  pub told : (measure : Measure) → sum_by (λ t. t.told measure) accounts ≡ sum_by (λ p. told_as p measure) pushers
  pub counted : sum_by (λ t. t.counted) accounts ≡ sum_by amount_of tallies

-- the ledger, of what pushers were told and flushers counted
pub record AddsUpWith (shards : ℕ) (earlier : EarlierState) (told : ℕ → ℕ) (counted : ℕ) (reports : List ShardReport) : Type 0 where
  pub all : length reports ≡ shards
  pub accepted : (i : ℕ) (r : ShardReport) → slice_get reports i ≡ Some r → r.accepted ≡ told i
  pub recovered : (i : ℕ) (r : ShardReport) → slice_get reports i ≡ Some r → r.recovered ≡ amount_at i earlier.told
  pub whole : (i : ℕ) (r : ShardReport) → slice_get reports i ≡ Some r → r.accepted + r.recovered ≡ r.stored + r.kept
  pub stored : stored_in reports ≡ amount_of earlier.stored + counted
