-- The JSON values that are written as replies.
use Rattle.std.specs.Prelude.{ℕ, ◌-◌, List, [], ◌∷◌, ◌++◌, map, codes, decimal, Bool, Option, Some, None, slice_get}
use Rattle.serde_json.specs.Data.{Data, boolean, number, unsigned, string, array, object, Members, no_members, member}
use Rattle.serde_json.specs.View.{items_of}
use Rattle.serde_json.specs.Written.{compact_text}
use Rattle.ing_tally.specs.declared.report.ShardReport.{ShardReport}
use Rattle.ing_refusals.specs.declared.refusal.Refusal.{Refusal}
use Rattle.ing_refusals.specs.Refusals.{refusal_number, refusal_name}
use Rattle.ing_query.specs.Found.{Found}
use Rattle.ing_rows.specs.Facets.{Facet, Series, Labels, Values}
use Rattle.ing_rows.specs.declared.gauges.Gauge.{Gauge}
use Rattle.ing_rows.specs.declared.gauges.Gauges.{Gauges}
use Rattle.ing_rows.specs.declared.verdict.Verdict.{Verdict}
use Rattle.ing_tally.specs.declared.counts.Counts.{Counts}
use Rattle.ing_rows.specs.declared.verdict.Verdict.TheVariants.{Accepted, Duplicate, LineTooLong, TooFarBehind, TooManyStreams}

abbrev pub count : ℕ → Data
count n = number (unsigned n)

-- stamps are texts, since they pass what a double holds (own)
abbrev pub verdict_data : Verdict → Data
verdict_data (Accepted n) = object (member (codes "accepted") (count n) no_members)
verdict_data Duplicate = string (codes "duplicate")
verdict_data LineTooLong = string (codes "line_too_long")
verdict_data (TooFarBehind limit) = object (member (codes "too_far_behind") (string (decimal limit)) no_members)
verdict_data (TooManyStreams live) = object (member (codes "too_many_streams") (count live) no_members)

-- a refusal: its name, its number, and the place at fault in front where it has one
abbrev pub fault_data : Refusal → Option ℕ → Data
fault_data refusal None =
    object (member (codes "error") (string (refusal_name refusal)) (
    member (codes "number") (count (refusal_number refusal)) no_members))
fault_data refusal (Some at) =
    object (member (codes "at") (count at) (
    member (codes "error") (string (refusal_name refusal)) (
    member (codes "number") (count (refusal_number refusal)) no_members)))

-- the verdict of each entry
abbrev pub verdicts_data : List Verdict → Data
verdicts_data verdicts = array (items_of (map verdict_data verdicts))

-- the stream by its canonical name, and the verdicts of its entries
abbrev pub judged_data : List ℕ → Bool → List Verdict → Data
judged_data name durable verdicts =
    object (member (codes "durable") (boolean durable) (member (codes "stream") (string name) (member (codes "verdicts") (verdicts_data verdicts) no_members)))

-- a reply for each stream
abbrev pub push_data : List Data → Data
push_data replies = object (member (codes "push") (array (items_of replies)) no_members)

-- of a sweep: operations that it queued, and chunks that it sealed
abbrev pub sweep_data : ℕ → ℕ → Data
sweep_data queued sealed =
    object (member (codes "sweep") (object (
    member (codes "queued") (count queued) (
    member (codes "sealed") (count sealed) no_members))) no_members)

-- of a flush: uploads that failed, chunks that were sealed for it, and chunks that were stored
abbrev pub flush_data : ℕ → ℕ → ℕ → Data
flush_data failed sealed stored =
    object (member (codes "flush") (object (
    member (codes "failed") (count failed) (
    member (codes "sealed") (count sealed) (
    member (codes "stored") (count stored) no_members)))) no_members)

-- entries and their bytes, which pass what a double holds
abbrev pub gauge_data : Gauge → Data
gauge_data gauge = object (member (codes "bytes") (string (decimal gauge.bytes)) (member (codes "entries") (count gauge.entries) no_members))

-- of a tenant in a shard: its entries by the kind of their place, and its live streams
abbrev pub tenant_data : Gauges → Data
tenant_data gauges =
    object (member (codes "block") (gauge_data gauges.block) (
    member (codes "flight") (gauge_data gauges.flight) (
    member (codes "head") (gauge_data gauges.head) (
    member (codes "stored") (gauge_data gauges.stored) (
    member (codes "streams") (count gauges.streams) no_members)))))

-- one for each shard
abbrev pub gauges_data : List Gauges → Data
gauges_data shards = object (member (codes "gauges") (array (items_of (map tenant_data shards))) no_members)

-- of a shard: entries accepted, and how many of them are stored
abbrev pub counts_data : Counts → Data
counts_data counts = object (member (codes "accepted") (count counts.accepted) (member (codes "stored") (count counts.stored) no_members))

-- one for each shard
abbrev pub board_data : List Counts → Data
board_data shards = object (member (codes "board") (array (items_of (map counts_data shards))) no_members)

-- one for each shard: a checkpoint of it has replaced its log
abbrev pub checkpoint_data : List Bool → Data
checkpoint_data shards = object (member (codes "checkpoint") (array (items_of (map boolean shards))) no_members)

-- an entry that a query gives: its line, its stamp, and its stream by its canonical name
abbrev pub entry_data : Found → Data
entry_data found =
    object (member (codes "line") (string found.entry.line) (
    member (codes "stamp") (string (decimal found.entry.stamp)) (
    member (codes "stream") (string found.name) no_members)))

-- the place of an entry, as a query names it that wants what stands behind it
abbrev pub place_data : Found → Data
place_data found =
    object (member (codes "number") (count found.number) (
    member (codes "stamp") (string (decimal found.entry.stamp)) (
    member (codes "stream") (string found.name) no_members)))

-- the last entry of a page that has as many as it may, where a page is asked for: more may stand behind it
abbrev pub last_of : Option ℕ → List Found → Option Found
last_of None found = None
last_of (Some most) found = slice_get found (most - 1)

abbrev pub next_members : Option Found → Members
next_members None = no_members
next_members (Some last) = member (codes "next") (place_data last) no_members

-- of a query: the entries, how many entries each shard had accepted, and where a page of so many entries is asked for and has them, the
-- place behind which the next one begins
abbrev pub query_data : Option ℕ → List Found → List ℕ → Data
query_data page found fronts =
    object (member (codes "query") (object (
    member (codes "entries") (array (items_of (map entry_data found))) (
    member (codes "fronts") (array (items_of (map count fronts))) (
    next_members (last_of page found))))) no_members)

-- texts, under the name of what they are
abbrev pub texts_data : List ℕ → List (List ℕ) → Data
texts_data name texts = object (member name (array (items_of (map string texts))) no_members)

-- of a question for a catalog: names of streams, or names of labels or values of one
abbrev pub catalog_data : Facet → List (List ℕ) → Data
catalog_data Series texts = texts_data (codes "series") texts
catalog_data Labels texts = texts_data (codes "labels") texts
catalog_data (Values name) texts = texts_data (codes "labels") texts

-- of a shard: entries accepted in this run, kept in memory, recovered from an earlier run, and stored
abbrev pub shard_data : ShardReport → Data
shard_data shard =
    object (member (codes "accepted") (count shard.accepted) (
    member (codes "kept") (count shard.kept) (
    member (codes "recovered") (count shard.recovered) (
    member (codes "stored") (count shard.stored) no_members))))

-- one for each shard
abbrev pub report_data : List ShardReport → Data
report_data shards = object (member (codes "report") (array (items_of (map shard_data shards))) no_members)

-- the same of a run of several channels, and how many of these broke
abbrev pub channels_data : ℕ → List ShardReport → Data
channels_data broken shards =
    object (member (codes "broken") (count broken) (member (codes "report") (array (items_of (map shard_data shards))) no_members))

-- a reply is one line
abbrev pub line_text : Data → List ℕ
line_text d = compact_text d ++ 10 ∷ []
