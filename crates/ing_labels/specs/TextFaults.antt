-- Which refusal a fault of a text is, the place that it speaks of, and what it says of the text.
use Rattle.std.specs.Prelude.{◌≡◌, false, ℕ, List, Option, Some, None}
use Rattle.ing_refusals.specs.declared.refusal.Refusal.{Refusal}
use Rattle.ing_refusals.specs.declared.refusal.Refusal.TheVariants as refusal
use Rattle.ing_labels.specs.Selectors.{Match, is_narrow, IsSelectorText, IsBadSelector}
use Rattle.ing_labels.specs.declared.text_fault.TextFault.{TextFault}
use Rattle.ing_labels.specs.declared.text_fault.TextFault.TheVariants.{NoMemory, NotCanonical, BadSelector, TooWide}

-- the refusal of the same name
abbrev pub text_refusal_of : TextFault → Refusal
text_refusal_of NoMemory = refusal.NoMemory
text_refusal_of (NotCanonical _) = refusal.NotCanonical
text_refusal_of (BadSelector _) = refusal.BadSelector
text_refusal_of TooWide = refusal.TooWide

-- the place in the text, of those faults that speak of one
abbrev pub text_fault_place : TextFault → Option ℕ
text_fault_place NoMemory = None
text_fault_place (NotCanonical at) = Some at
text_fault_place (BadSelector at) = Some at
text_fault_place TooWide = None

-- the text is no selector text
abbrev pub IsGrammarFault : List ℕ → TextFault → Type 0
IsGrammarFault text NoMemory = Unit {0}
IsGrammarFault text (NotCanonical _) = ⊥
IsGrammarFault text (BadSelector at) = IsBadSelector text at
IsGrammarFault text TooWide = ⊥

-- the text is no selector text, by the longest front with which some selector text begins; or it is
-- one, but none of its matchers asks for one value that is not empty
abbrev pub IsSelectorFault : List ℕ → TextFault → Type 0
IsSelectorFault text NoMemory = Unit {0}
IsSelectorFault text (NotCanonical _) = ⊥
IsSelectorFault text (BadSelector at) = IsBadSelector text at
IsSelectorFault text TooWide = (ms : List Match) × IsSelectorText ms text × (is_narrow ms ≡ false)
