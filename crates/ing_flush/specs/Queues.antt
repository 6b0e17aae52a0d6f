-- What contracts see of a flush queue and of its passes (own).
use Rattle.std.specs.Prelude.{ℕ, Bool, List, drop, length}
use Rattle.atomic_table.specs.Seated.{TableId}
use Rattle.crossbeam_queue.specs.Passes.{Pass, view}
use Rattle.ing_shard.specs.declared.sealing.Op.{Op}
use Rattle.ing_flush.specs.declared.line.Moved.{Moved}

-- a queue: its name, and how many operations it has room for
pub record QueueState : Type 0 where
  pub name : TableId
  pub capacity : ℕ

-- A pass, by which operations are put into a queue and taken from it, as contracts see it: the queue's name, what was put and taken
-- by this pass, in order, and whether it is the only one of the queue.
pub record PassState : Type 0 where
  pub queue : TableId
  pub put : List Op
  pub taken : List Op
  pub alone : Bool

-- a pass as contracts see it
abbrev pub pass_of : Pass Op Moved → PassState
pass_of pass = record { queue = pass.table_id; put = (view pass).put; taken = (view pass).taken; alone = (view pass).alone }

-- what stands in the queue of an only pass, oldest first: what was put and not taken yet
abbrev pub standing : PassState → List Op
standing pass = drop (length pass.taken) pass.put
