-- With which settings the program starts (own).
use Rattle.std.specs.Prelude.{◌≡◌, ◌⊎◌, ℕ, true, List, [], ◌∷◌, if◌then◌else◌, Result, Ok, Err, ⊤}
use Rattle.std.specs.Str.{is_utf8}
use Rattle.ing_limits.specs.Settings.{StoreSettings, Refusal, not_toml, settings_of}
use Rattle.ing_lanes.specs.Endings.{IsNotRecovered}
use Rattle.ing_service.specs.ByShards.{by_shards}
use Rattle.ing_service.specs.Held.{Begun, begun_new}
use Rattle.ing_lanes.specs.Manners.{Manner}
use Rattle.ing_lanes.specs.Ending.{Ending}
use Rattle.ing_lanes.specs.Ending.TheVariants.{NoFolder, NoObjects, FolderInUse, MissingLog}

-- the settings with which the program starts by the bytes of its settings file: what is not UTF-8 is no TOML
abbrev pub started_by : List ℕ → Result StoreSettings Refusal
started_by bytes = if is_utf8 bytes then settings_of bytes else Err not_toml

-- as the settings say, over a store that is honest
abbrev pub manner_of : StoreSettings → Manner
manner_of settings = by_shards ⊤ (begun_new settings.shards)

-- these argument words name a settings file of these bytes: without a word an empty one, else the file of the path that the first is,
-- whose bytes no contract knows
abbrev pub NamesFile : List (List ℕ) → List ℕ → Type 0
NamesFile [] file = file ≡ []
NamesFile (path ∷ []) file = ⊤
NamesFile (path ∷ folder ∷ []) file = ⊤
NamesFile (path ∷ folder ∷ next ∷ more) file = ⊥

-- these argument words are more than two, or that of the folder is empty, which names none
abbrev pub AreBad : List (List ℕ) → Type 0
AreBad [] = ⊥
AreBad (path ∷ []) = ⊥
AreBad (path ∷ folder ∷ []) = folder ≡ []
AreBad (path ∷ folder ∷ next ∷ more) = ⊤

-- Over a folder whose store is honest or not: what the shards begin with is what lies there, which no contract knows, and no more how often
-- the store fails.
abbrev pub IsOverFolder : Type 0 → (Manner → ℕ → Type 0) → Type 0
IsOverFolder honest P = (begun : Begun) × (begun.logged ≡ true) × (failed : ℕ) × P (by_shards honest begun) failed

-- the words have a folder, or it is as the settings say, over a store that does not fail
abbrev pub InManner : Type 0 → List (List ℕ) → StoreSettings → (Manner → ℕ → Type 0) → Type 0
InManner honest (path ∷ folder ∷ more) settings P = IsOverFolder honest P
InManner honest words settings P = P (manner_of settings) 0

-- these argument words name a settings file, and its bytes give settings with which this is said of a run
abbrev pub GiveSettings : Type 0 → List (List ℕ) → (Manner → StoreSettings → ℕ → Type 0) → Type 0
GiveSettings honest words P =
    (file : List ℕ) × NamesFile words file × (settings : StoreSettings) × (started_by file ≡ Ok settings) × InManner honest words settings (λ m failed. P m settings failed)

-- the folder was not opened, is in use, or lacks a log, or a shard was not made again from its log
abbrev pub IsOfFolder : Ending → Type 0
IsOfFolder ending =
    (ending ≡ NoFolder) ⊎ (ending ≡ NoObjects) ⊎ (ending ≡ FolderInUse) ⊎ (ending ≡ MissingLog) ⊎ IsNotRecovered ending
