-- Which refusal a fault of a query through the locks is, and what it tells of the store (own).
use Rattle.std.specs.Prelude.{◌≡◌, ℕ, Result, Ok, Err}
use Rattle.ing_refusals.specs.declared.refusal.Refusal.{Refusal}
use Rattle.ing_diary.specs.Fetched.{Counts, NotBad}
use Rattle.ing_diary.specs.QueryFaults.{query_refusal_of}
use Rattle.ing_begun.specs.NodeFaults.{refusal_of}
use Rattle.ing_node.specs.Refusals.{IsRoundRefusal}
use Rattle.ing_node.specs.declared.query.AnswerFault.{AnswerFault}
use Rattle.ing_node.specs.declared.query.AnswerFault.TheVariants.{Node, Query}

-- the end's count of failures before and after: it stays where there is an answer, where a lock was not passed and where an
-- object is bad, and a fault of the store comes only where the end has failed
abbrev pub IsCaused : {T : Type 0} → ℕ → ℕ → Result T AnswerFault → Type 0
IsCaused before after (Ok answer) = after ≡ before
IsCaused before after (Err (Node fault)) = after ≡ before
IsCaused before after (Err (Query fault)) = Counts before after fault

-- a lock is not passed for its own reasons
abbrev pub IsPassedOver : ℕ → AnswerFault → Type 0
IsPassedOver shards (Node fault) = IsRoundRefusal shards fault
IsPassedOver shards (Query fault) = Unit {0}

-- no object is said to be bad
abbrev pub IsNoBadAnswer : AnswerFault → Type 0
IsNoBadAnswer (Node fault) = Unit {0}
IsNoBadAnswer (Query fault) = NotBad fault

-- that of the fault in it
abbrev pub answer_refusal_of : AnswerFault → Refusal
answer_refusal_of (Node fault) = refusal_of fault
answer_refusal_of (Query fault) = query_refusal_of fault
