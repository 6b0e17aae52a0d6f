-- What shards begin with (own).
use Rattle.std.specs.Prelude.{◌≡◌, ℕ, ◌+◌, true, List, Some, length, refl, slice_get}
use Rattle.std.specs.Coded.{Coded, code_by, coded×}
use Rattle.ing_limits.specs.Settings.{StoreSettings}
use Rattle.ing_tally.specs.Books.{ShareState}
use Rattle.ing_durable.specs.Contents.{stored_count}
use Rattle.ing_durable.specs.Kept.{DurableContents, Replays, whose}

-- What contracts see of a shard, and of the shares of what it begins with.
pub record BegunState (D : Type 0) : Type 0 where
  pub shard : DurableContents D
  pub accepted : ShareState
  pub stored : ShareState

-- a code, by which a proof tells these values apart
abbrev pub begun_code : {D : Type 0} → Coded (DurableContents D) → Coded ShareState → Coded (BegunState D)
begun_code {D} shard_code share_code =
    code_by (DurableContents D × (ShareState × ShareState)) (coded× shard_code (coded× share_code share_code))
    (λ b. (b.shard, (b.accepted, b.stored))) (λ p. record { shard = p.0; accepted = p.1.0; stored = p.1.1 }) (λ _. refl)

-- it has these settings and this number, and its shares are of its books
abbrev pub IsBegunAs : {D : Type 0} → StoreSettings → ℕ → BegunState D → Type 0
IsBegunAs settings number begun =
    (begun.shard.memory.settings ≡ settings) × (begun.shard.memory.number ≡ number)
    × (begun.accepted.book ≡ begun.shard.memory.books.accepted.name) × (begun.stored.book ≡ begun.shard.memory.books.stored.name)

-- each has these settings, and the number of its place, counted from this one on
abbrev pub AreBegunFrom : {D : Type 0} → StoreSettings → ℕ → List (BegunState D) → Type 0
AreBegunFrom {D = D} settings number bs = (i : ℕ) (b : BegunState D) → slice_get bs i ≡ Some b → IsBegunAs settings (number + i) b

-- It has no entry, and its log is torn.
pub record IsFresh {D : Type 0} (begun : BegunState D) : Type 0 where
  pub torn : begun.shard.torn ≡ true
  pub accepted : begun.accepted.amount ≡ 0
  pub stored : begun.stored.amount ≡ 0

-- what it has is what the log at the place of its number replays to
abbrev pub HasReplayed : {D : Type 0} → (D → List ℕ) → List D → BegunState D → Type 0
HasReplayed {D = D} text logs begun =
    let memory = begun.shard.memory in
    (log : D) → slice_get logs memory.number ≡ Some log → Replays (whose memory) (text log) memory.state

-- Its shares are of its entries, and of those of them that are stored.
pub record HasCounted {D : Type 0} (begun : BegunState D) : Type 0 where
  pub accepted : begun.accepted.amount ≡ length begun.shard.memory.state.rows
  pub stored : begun.stored.amount ≡ stored_count begun.shard.memory.state.rows

-- its log is torn
abbrev pub HasTornLog : {D : Type 0} → BegunState D → Type 0
HasTornLog begun = begun.shard.torn ≡ true
