-- What flushes, one after another, leave of a flusher's shares, of its pass and of its end (own).
use Rattle.std.specs.Prelude.{◌≡◌, ◌⊎◌, ℕ, ◌+◌, ◌-◌, ◌^◌, ◌≤◌, List, ◌++◌, length, min, sum_by}
use Rattle.ing_shard.specs.declared.sealing.Op.{Op}
use Rattle.ing_tally.specs.Books.{ShareState, amount_of}
use Rattle.ing_store.specs.declared.fault.StoreFault.TheVariants.{NoMemory, Failed, Damaged}
use Rattle.ing_flush.specs.Queues.{PassState}
use Rattle.ing_flush.specs.Tallies.{amount_at}
use Rattle.ing_flush.specs.declared.flush.Flushed.{Flushed}
use Rattle.ing_flush.specs.declared.flush.Flushed.TheVariants.{Stored, Nothing, GaveBack, Strange}
use Rattle.ing_flush.specs.declared.round.Round.{Round}
use Rattle.ing_flush.specs.declared.worker.Worker.{Worker}

-- how many chunks a flush stored, and how many it had to leave
abbrev pub stored_in : Flushed → ℕ
stored_in (Stored entries) = 1
stored_in Nothing = 0
stored_in (GaveBack why) = 0
stored_in (Strange stray) = 0

abbrev pub failed_in : Flushed → ℕ
failed_in (Stored entries) = 0
failed_in Nothing = 0
failed_in (GaveBack why) = 1
failed_in (Strange stray) = 1

-- and how many of these for another reason than a failure of the store
abbrev pub other_in : Flushed → ℕ
other_in (Stored entries) = 0
other_in Nothing = 0
other_in (GaveBack NoMemory) = 1
other_in (GaveBack Failed) = 0
other_in (GaveBack Damaged) = 0
other_in (Strange stray) = 1

-- shares after so many chunks were stored: no share falls; they rose by an entry at least for each chunk; and they are the same where
-- none was stored
pub record HaveRisen (chunks : ℕ) (old new : List ShareState) : Type 0 where
  pub each : (i : ℕ) → amount_at i old ≤ amount_at i new
  pub all : amount_of old + chunks ≤ amount_of new
  pub none : chunks ≡ 0 → new ≡ old

-- a pass by which so many operations were taken, at least, and none was put
pub record HasTaken (count : ℕ) (old new : PassState) : Type 0 where
  pub queue : new.queue ≡ old.queue
  pub put : new.put ≡ old.put
  pub alone : new.alone ≡ old.alone
  pub ops : List Op
  pub taken : new.taken ≡ old.taken ++ ops
  pub enough : count ≤ length ops

-- An end's count of failures before and after flushes of which so many failed, so many of them for another reason than a failure of
-- the store: it does not fall, it stays where none failed, and each other one has a failure of its own, up to the last count, 2^64-1.
pub record IsTold (failed other before after : ℕ) : Type 0 where
  pub less : before ≤ after
  pub none : failed ≡ 0 → after ≡ before
  pub cause : (before + (failed - other) ≤ after) ⊎ (2 ^ 64 ≤ after + 1)

-- ---- rounds

-- the rounds of several, together; a count that would pass 2^64-1 stays there
pub record IsSumOf {W : Type 0} (round_of : W → Round) (workers : List W) (sum : Round) : Type 0 where
  pub stored : sum.stored ≡ min (sum_by (λ worker. (round_of worker).stored) workers) (2 ^ 64 - 1)
  pub failed : sum.failed ≡ min (sum_by (λ worker. (round_of worker).failed) workers) (2 ^ 64 - 1)
  pub other : sum.other ≡ min (sum_by (λ worker. (round_of worker).other) workers) (2 ^ 64 - 1)

-- what contracts see of a worker: its shares, its pass, what its latest round came to, and how often its end has failed
pub record WorkerState : Type 0 where
  pub tally : List ShareState
  pub pass : PassState
  pub round : Round
  pub failures : ℕ

-- by how an end tells how often it has failed
abbrev pub worker_of : {S G R : Type 0} → (S → ℕ) → Worker S G R → WorkerState
worker_of failure_count worker =
    record { tally = worker.flusher.tally; pass = worker.pass; round = worker.round; failures = failure_count worker.flusher.end.end }

-- a worker before a round and after it
pub record IsRound (old new : WorkerState) : Type 0 where
  pub stored : HaveRisen new.round.stored old.tally new.tally
  pub taken : HasTaken (new.round.stored + new.round.failed) old.pass new.pass
  pub failed : IsTold new.round.failed new.round.other old.failures new.failures
