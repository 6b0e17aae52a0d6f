-- What is held of shards behind locks by those who push and flush. For private clauses.
use Rattle.std.specs.Prelude.{◌≡◌, ℕ, ◌+◌, ◌≤◌, List, Some, length, slice_get, sum_by}
use Rattle.serde_json.specs.Data.{Data}
use Rattle.ing_limits.specs.Settings.{StoreSettings}
use Rattle.ing_tally.specs.Books.{ShareState, amount_of}
use Rattle.ing_tally.specs.Counts.{ReaderState}
use Rattle.ing_tally.specs.declared.counts.Counts.{Counts}
use Rattle.ing_node.specs.Worker.{Worker}
use Rattle.ing_node.specs.Boards.{IsNoLess, known_at}
use Rattle.ing_node.specs.Diaries.{PusherState}
use Rattle.ing_session.specs.Replies.{board_data}
use Rattle.ing_lanes.specs.ByLane.{AreOrdered, Held, Measure, Stays, Told, told_by}

-- how many entries flushers have counted as stored
abbrev pub counted_by : {S G R : Type 0} → List (Worker S G R) → ℕ
counted_by workers = sum_by (λ worker. amount_of worker.flusher.tally) workers

-- how many a tally has counted
abbrev pub told_in : List ShareState → ℕ
told_in tally = amount_of tally

-- not fewer
abbrev pub Rises : Told → Told → Type 0
Rises old new = (measure : Measure) → old measure ≤ new measure

-- for each chunk that was stored an entry at least was counted, and none where no chunk was
pub record RisesBy (chunks before after : ℕ) : Type 0 where
  pub least : before + chunks ≤ after
  pub none : chunks ≡ 0 → after ≡ before

-- What the pusher was told, chunks of which so many entries are counted, and counts of which the reader knows no less.
pub record IsHeld (pusher : PusherState) (counted : ℕ) (readers : List ReaderState) (held : Held) : Type 0 where
  pub told : Stays (told_by pusher) held.told
  pub chunks : held.chunks ≤ counted
  pub none : held.chunks ≡ 0 → counted ≡ 0
  pub board : (i : ℕ) → IsNoLess (held.board i) (known_at i readers)

-- the same where memory ran out in a call: the pusher may have been told of more, and more may be counted
pub record IsHeldAtLeast (pusher : PusherState) (counted : ℕ) (held : Held) : Type 0 where
  pub told : Rises held.told (told_by pusher)
  pub chunks : held.chunks ≤ counted

-- The reply tells of each shard what a reader knows of it by now: no more stored than accepted, and no less than it knew.
pub record ReadsBoard (settings : StoreSettings) (old new : List ReaderState) (reply : Data) : Type 0 where
  pub shards : List Counts
  pub all : length shards ≡ settings.shards
  pub ordered : AreOrdered shards
  pub later : (i : ℕ) → IsNoLess (known_at i old) (known_at i new)
  pub known : (i : ℕ) (counts : Counts) → slice_get shards i ≡ Some counts → known_at i new ≡ counts
  pub told : reply ≡ board_data shards
