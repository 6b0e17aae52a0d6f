-- What a round of sweeping queues, and what it leaves (own).
use Rattle.std.specs.Prelude.{◌≡◌, ℕ, ◌<◌, All, IsTrue, List, ◌++◌, length}
use Rattle.ing_begun.specs.Op.{Op}
use Rattle.ing_flush.specs.Queues.{PassState, standing}

-- Of the operations of a list so many are queued, from its first on, and those behind them are left: what was put by the pass and what
-- is left are together the list.
pub record AreQueued (queued : ℕ) (given left : List Op) (old new : PassState) : Type 0 where
  pub ops : List Op
  pub pass : new ≡ record old { put = old.put ++ ops }
  pub all : given ≡ ops ++ left
  pub count : queued ≡ length ops

-- some are left only where the queue is full; a clause knows that of an only pass
abbrev pub IsFullAt : ℕ → List Op → PassState → Type 0
IsFullAt capacity left pass = 0 < length left → IsTrue pass.alone → length (standing pass) ≡ capacity

-- operations of shards whose number is below this one
abbrev pub AreBelow : ℕ → List Op → Type 0
AreBelow shards = All (λ op. op.shard < shards)
