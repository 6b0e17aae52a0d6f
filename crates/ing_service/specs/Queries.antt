-- What a query comes to.
use Rattle.std.specs.Prelude.{◌≢◌, ℕ, Bool, List, map, filter, IsPermutation}
use Rattle.ing_labels.specs.Selectors.{Match, IsSelector, IsSelectorText}
use Rattle.ing_labels.specs.TextFaults.{IsSelectorFault}
use Rattle.ing_labels.specs.declared.text_fault.TextFault.{TextFault}
use Rattle.ing_labels.specs.declared.text_fault.TextFault.TheVariants.{NoMemory}
use Rattle.ing_query.specs.Found.{Found}
use Rattle.ing_query.specs.PartAnswers.{IsAnswer}
use Rattle.ing_query.specs.Parts.{found_at, within}
use Rattle.ing_rows.specs.Rows.{Row, StreamKey}
use Rattle.ing_durable.specs.Picked.{Picks}
use Rattle.ing_commands.specs.QueryCommands.{QueryCommand}
use Rattle.ing_session.specs.Selecting.{Reads, question_of}

-- What a query comes to: its text is refused; these entries are given; the store failed; or an object of the store is not the
-- chunk that is listed.
pub data Answer : Type 0 where
  Refused : TextFault → Answer
  Given : List Found → Answer
  Failed : Answer
  Damaged : Answer

-- how many queries failed
abbrev pub failed_of : Answer → ℕ
failed_of (Refused fault) = 0
failed_of (Given found) = 0
failed_of Failed = 1
failed_of Damaged = 0

-- these entries are the answer to a query, of these rows in whatever order
pub record IsFound (query : QueryCommand) (rows : List Row) (found : List Found) : Type 0 where
  pub all : List Found
  pub same : IsPermutation (map found_at rows) all
  pub answer : IsAnswer query.order query.limit (within (question_of query) all) found

-- the same, of those among these rows whose streams the text selects
abbrev pub IsFoundAmong : QueryCommand → List Match → List Row → List Found → Type 0
IsFoundAmong query ms rows found = (picked : StreamKey → Bool) → Picks query.tenant ms picked → IsFound query (filter (λ r. picked r.stream) rows) found

-- A query may come to this, of these rows, over an end of the store that is honest or not.
abbrev pub QueryMayBe : Type 0 → QueryCommand → Answer → List Row → Type 0
QueryMayBe honest query (Refused fault) rows = IsSelectorFault query.text fault × (fault ≢ NoMemory)
QueryMayBe honest query (Given found) rows = (reads : Reads query.text) × (honest → IsFoundAmong query reads.ms rows found)
QueryMayBe honest query Failed rows = Reads query.text
QueryMayBe honest query Damaged rows = Reads query.text × (honest → ⊥)
