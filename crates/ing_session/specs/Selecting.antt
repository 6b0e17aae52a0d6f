-- What may be asked for (Loki documentation: log stream selector; own).
use Rattle.std.specs.Prelude.{◌≡◌, ◌≢◌, ℕ, List, [], if◌then◌else◌, Option, None, Some}
use Rattle.ing_commands.specs.QueryCommands.{QueryCommand}
use Rattle.ing_query.specs.Questions.{Question}
use Rattle.ing_labels.specs.Selectors.{Match, IsSelector, IsSelectorText}
use Rattle.ing_labels.specs.TextFaults.{IsSelectorFault}
use Rattle.ing_labels.specs.declared.text_fault.TextFault.{TextFault}
use Rattle.ing_labels.specs.declared.text_fault.TextFault.TheVariants.{NoMemory}

-- the question that a query asks of the entries of the streams that it selects
abbrev pub question_of : QueryCommand → Question
question_of query = record { start = query.start; end = query.end; order = query.order; limit = query.limit; after = query.after }

-- how many entries a page has at most, where a query asks for pages
abbrev pub page_of : QueryCommand → Option ℕ
page_of query = if query.pages then Some query.limit else None

-- a text that may be asked for, by its matchers
pub record Reads (text : List ℕ) : Type 0 where
  pub ms : List Match
  pub spelt : IsSelectorText ms text
  pub usable : IsSelector ms

-- the matchers by which a question asks that may have a text: those of its text, and none without one, so that all streams are asked
abbrev pub AsksBy : Option (List ℕ) → List Match → Type 0
AsksBy None ms = ms ≡ []
AsksBy (Some text) ms = IsSelectorText ms text × IsSelector ms

-- its text is no selector that may be used, by this fault
abbrev pub IsTextRefused : Option (List ℕ) → TextFault → Type 0
IsTextRefused None fault = ⊥
IsTextRefused (Some text) fault = IsSelectorFault text fault × (fault ≢ NoMemory)
