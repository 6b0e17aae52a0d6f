-- Pushes of a channel whose records wait, and share a sync: what is told of them is known but for which shards outlive a crash then.
use Rattle.std.specs.Prelude.{◌≡◌, ℕ, Bool, false, List, [], ◌∷◌, map, slice_get}
use Rattle.std.specs.Option.{unwrap_or}
use Rattle.serde_json.specs.Data.{Data}
use Rattle.ing_labels.specs.Canonical.{canonical_of}
use Rattle.ing_limits.specs.Settings.{StoreSettings}
use Rattle.ing_commands.specs.PushCommands.{PushCommand}
use Rattle.ing_session.specs.PushLines.{TakesPushes}
use Rattle.ing_session.specs.Replies.{judged_data, push_data}
use Rattle.ing_session.specs.Views.{stream_data}
use Rattle.ing_lanes.specs.declared.lane.pushes.Draft.{Draft}
use Rattle.ing_lanes.specs.declared.lane.pushes.Draft.TheVariants.{Judged, Refused}
use Rattle.ing_lanes.specs.ByLane.{PushesStreams, Stays, Told}

-- of which shards, by their numbers, everything outlives a crash; without logs of none
abbrev pub lasts_at : List Bool → ℕ → Bool
lasts_at lasting place = unwrap_or (slice_get lasting place) false

abbrev pub MayLast : Bool → List Bool → Type 0
MayLast logs lasting = logs ≡ false → (place : ℕ) → lasts_at lasting place ≡ false

-- the reply to a stream then
abbrev pub data_of : List Bool → Draft → Data
data_of lasting (Refused reply) = stream_data reply
data_of lasting (Judged place labels verdicts) = judged_data (canonical_of labels) (lasts_at lasting place) verdicts.items

-- the reply to a push
abbrev pub replies_of : List Bool → List Draft → Data
replies_of lasting drafts = push_data (map (data_of lasting) drafts)

-- the streams of each push, one push after another, each with its reply
abbrev pub PushesEach : Bool → StoreSettings → List PushCommand → Told → Told → List Data → Type 0
PushesEach logs settings [] old new replies = Stays old new × (replies ≡ [])
PushesEach logs settings (push ∷ pushes) old new replies =
    (mid : Told) × (streams : List Data) × (others : List Data) × PushesStreams logs settings push.tenant push.now push.streams streams old mid
    × PushesEach logs settings pushes mid new others × (replies ≡ push_data streams ∷ others)

-- a push, and those that lines at hand command, which are taken off the front of these bytes, while what they write waits
pub record DraftsLines (logs : Bool) (settings : StoreSettings) (first : PushCommand) (bytes rest : List ℕ) (old new : Told) (drafts : List (List Draft)) : Type 0 where
  pub others : List PushCommand
  pub taken : TakesPushes bytes rest others
  pub each : (lasting : List Bool) → MayLast logs lasting → PushesEach logs settings (first ∷ others) old new (map (replies_of lasting) drafts)

-- the same once it is written
pub record PushesAll (logs : Bool) (settings : StoreSettings) (first : PushCommand) (bytes rest : List ℕ) (old new : Told) (replies : List Data) : Type 0 where
  pub others : List PushCommand
  pub taken : TakesPushes bytes rest others
  pub each : PushesEach logs settings (first ∷ others) old new replies
