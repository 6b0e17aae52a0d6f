-- The rule of a flush queue: what was put was taken or stands in the queue (own).
use Rattle.std.specs.Prelude.{◌≡◌, ℕ, ◌+◌, true, false, List, [], ◌∷◌, ◌++◌, length, sum_by}
use mathlib.Core.Option.{some}
use lib.ListN.{get_elem?}
use Rattle.ing_shard.specs.declared.sealing.Op.{Op}
use Rattle.ing_flush.specs.declared.line.Moved.{Moved}

-- the first pass, and each later one: nothing was put or taken by it
abbrev pub first : Moved
first = record { put = []; taken = []; alone = true }

abbrev pub later : Moved
later = record { put = []; taken = []; alone = false }

-- one more was put, or taken; another pass was made
abbrev pub with_put : Op → Moved → Moved
with_put op pass = record { put = pass.put ++ op ∷ []; taken = pass.taken; alone = pass.alone }

abbrev pub with_taken : Op → Moved → Moved
with_taken op pass = record { put = pass.put; taken = pass.taken ++ op ∷ []; alone = pass.alone }

abbrev pub in_company : Moved → Moved
in_company pass = record { put = pass.put; taken = pass.taken; alone = false }

-- Over all passes, however operations are weighed, what was put weighs as much as what was taken and what stands in the queue. With
-- 1 for one operation and 0 for all others a weight is how often it is there: so each was put as often as it was taken or stands there.
abbrev pub IsBalanced : List Op → List Moved → Type 0
IsBalanced standing passes = (weight : Op → ℕ) →
    sum_by (λ pass. sum_by weight pass.put) passes ≡ sum_by (λ pass. sum_by weight pass.taken) passes + sum_by weight standing

-- these stand in a queue by whose only pass those were put and taken, oldest first
abbrev pub IsStanding : List Op → Moved → Type 0
IsStanding standing pass = pass.put ≡ pass.taken ++ standing

-- the rule: a pass that is said to be alone is the only one
pub record IsLine (standing : List Op) (passes : List Moved) : Type 0 where
  pub balanced : IsBalanced standing passes
  pub alone : (i : ℕ) (pass : Moved) → get_elem? passes i ≡ some pass → pass.alone ≡ true → (length passes ≡ 1) × IsStanding standing pass

-- what a take tells: the operation is the one at the front, where the pass is alone
abbrev pub IsTaken : Moved → Op → Moved → Type 0
IsTaken old op new = (new ≡ with_taken op old) × (old.alone ≡ true → (rest : List Op) × IsStanding (op ∷ rest) old)

-- what a pass learns of a queue that is full or empty
abbrev pub Learned : Moved → List Op → Type 0
Learned pass standing = pass.alone ≡ true → IsStanding standing pass
