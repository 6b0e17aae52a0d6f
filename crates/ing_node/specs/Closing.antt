-- Shares that are gathered, shard by shard, and shards that can be gathered (own).
use Rattle.std.specs.Prelude.{◌≡◌, ◌≢◌, ℕ, ◌+◌, ◌-◌, ◌^◌, ◌≤◌, List, [], ◌∷◌, Option, Some, None, min, slice_get, sum_by, vec_len}
use Rattle.std.specs.Global.{Vec}
use Rattle.std.specs.Vec.{vec_capacity}
use Rattle.ing_tally.specs.Books.{ShareState}
use Rattle.ing_limits.specs.Settings.{StoreSettings}
use Rattle.ing_begun.specs.Closed.{ClosedContents}
use Rattle.ing_begun.specs.Contents.{Contents}
use Rattle.ing_node.specs.declared.report.CloseRefusal.{CloseRefusal}
use Rattle.ing_node.specs.declared.report.CloseRefusal.TheVariants.{StillOut, Misplaced}

-- ---- lists of shares, one for each shard

-- the shares at a place; none where there is no list
abbrev pub shares_in : Option (Vec ShareState) → List ShareState
shares_in None = []
shares_in (Some list) = list.items

abbrev pub shares_at : ℕ → List (Vec ShareState) → List ShareState
shares_at i lists = shares_in (slice_get lists i)

-- the share at a place, as a list of one
abbrev pub one_in : Option ShareState → List ShareState
one_in None = []
one_in (Some share) = share ∷ []

abbrev pub one_at : ℕ → List ShareState → List ShareState
one_at i shares = one_in (slice_get shares i)

-- each list has room for so many more
abbrev pub HaveRoom : ℕ → List (Vec ShareState) → Type 0
HaveRoom n lists = (i : ℕ) (list : Vec ShareState) → slice_get lists i ≡ Some list → vec_len list + n ≤ vec_capacity list

-- ---- shards

-- It stands at its place, no chunk of it is in flight, and no more shares of its books are out than these.
pub record IsComplete (place pushing tallies : ℕ) (shard : Contents) : Type 0 where
  pub number : shard.number ≡ place
  pub accepted : shard.books.accepted.out ≤ pushing
  pub flight : shard.books.flight.out ≡ 0
  pub stored : shard.books.stored.out ≤ tallies

-- each shard is, with so many shares by its place; a shard is read off what lies under a lock
abbrev pub AreComplete : {H : Type 0} → (H → Contents) → (ℕ → ℕ) → (ℕ → ℕ) → List H → Type 0
AreComplete {H = H} shard_in pushing tallies helds =
    (i : ℕ) (held : H) → slice_get helds i ≡ Some held → IsComplete i (pushing i) (tallies i) (shard_in held)

-- shares that are out beyond so many of each shard, over all shards: of each book their sum, up to 2^64-1
pub record AreMissing {H : Type 0} (shard_in : H → Contents) (pushing tallies : ℕ) (helds : List H) (accepted flight stored : ℕ) : Type 0 where
  pub accepted_are : accepted ≡ min (sum_by (λ held. (shard_in held).books.accepted.out - pushing) helds) (2 ^ 64 - 1)
  pub flight_are : flight ≡ min (sum_by (λ held. (shard_in held).books.flight.out) helds) (2 ^ 64 - 1)
  pub stored_are : stored ≡ min (sum_by (λ held. (shard_in held).books.stored.out - tallies) helds) (2 ^ 64 - 1)

-- what a refusal tells of the shards is so: how many shares are missing, or at which place a shard stands that is of another
abbrev pub TellsOf : {H : Type 0} → (H → Contents) → ℕ → ℕ → List H → CloseRefusal → Type 0
TellsOf shard_in pushing tallies helds (StillOut all) = AreMissing shard_in pushing tallies helds all.accepted all.flight all.stored
TellsOf {H = H} shard_in pushing tallies helds (Misplaced place) = (held : H) × (slice_get helds place ≡ Some held) × ((shard_in held).number ≢ place)
TellsOf shard_in pushing tallies helds _ = Unit {0}

-- closed shards: each stands at the place of its number, and has these settings
abbrev pub StandInPlaces : StoreSettings → List ClosedContents → Type 0
StandInPlaces settings shards =
    (i : ℕ) (shard : ClosedContents) → slice_get shards i ≡ Some shard → (shard.settings ≡ settings) × (shard.number ≡ i)

-- each stands at its place
abbrev pub AreInPlaces : {H : Type 0} → (H → Contents) → List H → Type 0
AreInPlaces {H = H} shard_in helds = (i : ℕ) (held : H) → slice_get helds i ≡ Some held → (shard_in held).number ≡ i
