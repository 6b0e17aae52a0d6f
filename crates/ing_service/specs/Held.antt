-- What shards that nobody shares hold between one line and the next.
use Rattle.std.specs.Prelude.{◌≡◌, ⊤, ℕ, ◌+◌, ◌<◌, zero, suc, Bool, true, false, List, [], ◌∷◌, length, replicate, Some, slice_get}
use Rattle.ing_rows.specs.Rows.{StreamKey, State, empty_state}
use Rattle.ing_limits.specs.Settings.{StoreSettings}
use Rattle.ing_durable.specs.Op.{Op}
use Rattle.ing_durable.specs.Kept.{DurableContents, Replays, Whose, shard_at}

-- of one shard: its streams in the order of their numbers, its rows and marks, and whether its log is torn: it takes no record then
pub record ShardHeld : Type 0 where
  pub listed : List StreamKey
  pub state : State
  pub torn : Bool

-- the shards by their numbers, and the operations that sweeps have queued, the oldest first
pub record Held : Type 0 where
  pub shards : List ShardHeld
  pub ops : List Op

-- what the shards hold before the first line, when no operation is queued yet, and whether there are logs
pub record Begun : Type 0 where
  pub shards : List ShardHeld
  pub logged : Bool

abbrev pub first_held : Begun → Held
first_held begun = record { shards = begun.shards; ops = [] }

-- without a log nothing is held, and what is none counts as torn
abbrev pub new_shard : ShardHeld
new_shard = record { listed = []; state = empty_state; torn = true }

-- so many shards without logs
abbrev pub begun_new : ℕ → Begun
begun_new shards = record { shards = replicate shards new_shard; logged = false }

-- With logs that had these texts, by the numbers of the shards under these settings: where logs are honest, what each shard holds is what
-- its text replays to.
pub record BeginsOver (honest : Type 0) (settings : StoreSettings) (texts : List (List ℕ)) (begun : Begun) : Type 0 where
  pub logged : begun.logged ≡ true
  pub all : length begun.shards ≡ length texts
  pub replays : honest → (number : ℕ) (text : List ℕ) (shard : ShardHeld) →
      slice_get texts number ≡ Some text → slice_get begun.shards number ≡ Some shard → Replays (shard_at settings number) text shard.state

-- a torn log stays torn; a whole one may tear
abbrev pub MayTear : Bool → Bool → Type 0
MayTear true now = now ≡ true
MayTear false now = ⊤

-- what is held of a shard over its log
abbrev pub shard_held : {D : Type 0} → DurableContents D → ShardHeld
shard_held shard = record { listed = shard.memory.listed; state = shard.memory.state; torn = shard.torn }

-- what is held of shards, and operations
abbrev pub held_in : List ShardHeld → List Op → Held
held_in shards ops = record { shards = shards; ops = ops }

-- So many shards of these settings, each with its number; the first has this one.
abbrev pub whose_from : StoreSettings → ℕ → ℕ → List Whose
whose_from settings number zero = []
whose_from settings number (suc count) = record { settings = settings; number = number } ∷ whose_from settings (number + 1) count

-- all shards of these settings, by their numbers
abbrev pub AreShardsOf : StoreSettings → List Whose → Type 0
AreShardsOf settings shards = shards ≡ whose_from settings 0 settings.shards

-- all shards of some settings
abbrev pub AreNumbered : List Whose → Type 0
AreNumbered shards = (settings : StoreSettings) × AreShardsOf settings shards

-- its number is below how many shards there are
abbrev pub IsBelowCount : Whose → Type 0
IsBelowCount shard = shard.number < shard.settings.shards
