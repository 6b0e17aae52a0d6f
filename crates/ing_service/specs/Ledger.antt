-- What the report at the end of an output says beside the replies in front of it.
use Rattle.std.specs.Prelude.{◌≡◌, ℕ, ◌+◌, List, ◌++◌, All, Option, Some, codes, if◌then◌else◌, is_some, map, sum_by}
use Rattle.std.specs.List.{flat_map}
use Rattle.std.specs.Io.KnownBytes.{Appends}
use Rattle.serde_json.specs.Data.{Data, array, Items, no_items, item}
use Rattle.serde_json.specs.Find.{get}
use Rattle.ing_tally.specs.declared.report.ShardReport.{ShardReport}
use Rattle.ing_session.specs.Replies.{line_text, report_data}
use Rattle.ing_service.specs.ByShards.{fronts_of}
use Rattle.ing_service.specs.Held.{Begun}

-- ---- how many verdicts say accepted, as any reader of JSON counts them

-- a number for each value side by side, in all
abbrev pub count_items : (Data → ℕ) → Items → ℕ
count_items count no_items = 0
count_items count (item d ds) = count d + count_items count ds

-- for each value of an array; what is no array has none
abbrev pub count_array : (Data → ℕ) → Option Data → ℕ
count_array count (Some (array ds)) = count_items count ds
count_array count _ = 0

-- for each value of the array that an object has under this name
abbrev pub count_under : List ℕ → (Data → ℕ) → Data → ℕ
count_under name count d = count_array count (get name d)

-- 1 for a verdict that has a member of that name
abbrev pub accepted_by : Data → ℕ
accepted_by verdict = if is_some (get (codes "accepted") verdict) then 1 else 0

-- of one stream of a push
abbrev pub accepted_of : Data → ℕ
accepted_of stream = count_under (codes "verdicts") accepted_by stream

-- of a reply: only a push is told verdicts
abbrev pub accepted_in : Data → ℕ
accepted_in reply = count_under (codes "push") accepted_of reply

-- ---- the report

-- what it tells of a shard comes to the same on both sides: what went in, and where that is
abbrev pub IsBalanced : ShardReport → Type 0
IsBalanced shard = shard.recovered + shard.accepted ≡ shard.stored + shard.kept

-- Replies are written, a line each, and behind them the report of the shards that began so. It tells as accepted as many entries as the
-- verdicts of these replies did, and as recovered what each shard began with; and that of each shard is balanced.
pub record AddsUp (begun : Begun) (old new : Option (List ℕ)) : Type 0 where
  pub replies : List Data
  pub shards : List ShardReport
  pub written : Appends old new (flat_map line_text replies ++ line_text (report_data shards))
  pub accepted : sum_by (λ (shard : ShardReport). shard.accepted) shards ≡ sum_by accepted_in replies
  pub recovered : map (λ (shard : ShardReport). shard.recovered) shards ≡ fronts_of begun.shards
  pub balanced : All IsBalanced shards
