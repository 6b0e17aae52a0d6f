-- Several channels over a folder (own).
use Rattle.std.specs.Prelude.{◌≡◌, ◌⊎◌, ℕ, ◌+◌, ◌*◌, ◌<◌, ◌≤◌, ◌%◌, ◌==◌, if◌then◌else◌, List, [], ◌∷◌, Option, length, ⊤}
use Rattle.std.specs.Io.KnownBytes.{Appends}
use Rattle.ing_limits.specs.Settings.{StoreSettings}
use Rattle.ing_lanes.specs.Served.{Account, AddsUp}
use Rattle.ing_lanes.specs.Earlier.{EarlierState}
use Rattle.ing_lanes.specs.Replies.{channels_data, line_text}
use Rattle.ing_tally.specs.declared.report.ShardReport.{ShardReport}

-- These argument words name no channels over a folder: that of the folder is empty, no path follows it, one without a partner, or more than
-- those of 65,536 channels.
abbrev pub AreNoChannels : List (List ℕ) → Type 0
AreNoChannels [] = ⊤
AreNoChannels (path ∷ []) = ⊤
AreNoChannels (path ∷ folder ∷ channels) = (folder ≡ []) ⊎ (channels ≡ []) ⊎ (length channels % 2 ≡ 1) ⊎ (131072 < length channels)

-- One line is written: how many of the channels broke, and what became of the entries of each shard. Each channel has an account, and the
-- reports add up with all of them. What is read at a path no contract knows, and so not what each was told; nor what lies in the folder, and
-- so not what the shards began with.
pub record ReportsChannels (settings : StoreSettings) (channels : ℕ) (old new : Option (List ℕ)) : Type 0 where
  pub earlier : EarlierState
  pub accounts : List Account
  pub broken : ℕ
  pub reports : List ShardReport
  pub all : length accounts ≡ channels
  pub few : broken ≤ channels
  pub adds_up : AddsUp settings.shards earlier accounts reports
  pub told : Appends old new (line_text (channels_data broken reports))

-- the clock is a channel, where the settings have a period
abbrev pub clock_count : StoreSettings → ℕ
clock_count settings = if settings.flush_check_period == 0 then 0 else 1

-- there is a channel for each two of so many paths, and that of the clock
pub record ReportsPaths (settings : StoreSettings) (paths : ℕ) (old new : Option (List ℕ)) : Type 0 where
  pub pairs : ℕ
  pub all : 2 * pairs ≡ paths
  pub reported : ReportsChannels settings (clock_count settings + pairs) old new
