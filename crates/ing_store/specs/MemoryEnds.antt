-- How an end of a store in memory counts its calls, and which of them fail (own).
use Rattle.std.specs.Prelude.{ℕ, Bool, false, ◌==◌, nat_le, if◌then◌else◌}
use Rattle.ing_refusals.specs.Failures.{one_more}
use Rattle.ing_store.specs.declared.memory_end.Fuse.{Fuse}
use Rattle.ing_store.specs.declared.memory_end.Fuse.TheVariants as fuse

-- the calls that it was given and how often it has failed, both up to 2^64-1, and which of the calls fail
pub record EndState : Type 0 where
  pub fuse : Fuse
  pub calls : ℕ
  pub failures : ℕ

-- the call of this number fails
abbrev pub fails_at : Fuse → ℕ → Bool
fails_at fuse.None n = false
fails_at (fuse.Failed k) n = n == k
fails_at (fuse.StoredYetFailed k) n = n == k
fails_at (fuse.FailedFrom k) n = nat_le k n

-- the next call fails
abbrev pub is_failing : EndState → Bool
is_failing end = fails_at end.fuse end.calls

-- how often it has failed after the next call
abbrev pub failures_after : EndState → ℕ
failures_after end = if is_failing end then one_more end.failures else end.failures

-- after the next call
abbrev pub called : EndState → EndState
called end = record end { calls = one_more end.calls; failures = failures_after end }

abbrev pub new_end : Fuse → EndState
new_end f = record { fuse = f; calls = 0; failures = 0 }
