-- Selectors: what they pick, and how they are written.
use Rattle.std.specs.Prelude.{◌≡◌, ◌≤◌, ◌<◌, ◌+◌, ℕ, Bool, true, not, ◌||◌, ◌&&◌, ◌==◌, List, [], ◌∷◌, ◌++◌, length, take, codes, IsTrue}
use Rattle.std.specs.List.{list_all, list_any, join_by}
use Rattle.std.specs.Str.{bytes_eq}
use Rattle.ing_labels.specs.Names.{is_label_name}
use Rattle.ing_labels.specs.Labels.{LabelMap}
use Rattle.ing_labels.specs.LabelValues.{label_value}
use Rattle.ing_labels.specs.Canonical.{written_value}
use Rattle.ing_labels.specs.declared.selector.MatchOp.{MatchOp}
use Rattle.ing_labels.specs.declared.selector.MatchOp.TheVariants.{Equals, Differs}

-- a matcher: the bytes of its name and value, and what it asks of the label's value
pub record Match : Type 0 where
  pub name : List ℕ
  pub op : MatchOp
  pub value : List ℕ

-- what an operator asks of whether two values are equal
abbrev pub agrees : MatchOp → Bool → Bool
agrees Equals same = same
agrees Differs same = not same

-- a matcher holds of labels
abbrev pub match_holds : LabelMap → Match → Bool
match_holds m x = agrees x.op (bytes_eq (label_value m x.name) x.value)

-- each matcher holds of the labels
abbrev pub selects : List Match → LabelMap → Bool
selects ms m = list_all (match_holds m) ms

-- a matcher asks for one value that is not empty
abbrev pub asks_for_value : Match → Bool
asks_for_value x = agrees x.op true && not (length x.value == 0)

-- some matcher asks for one value that is not empty
abbrev pub is_narrow : List Match → Bool
is_narrow = list_any asks_for_value

-- the matchers of a selector that may be used: each has a label name, and one is `=` with a value
pub record IsSelector (ms : List Match) : Type 0 where
  pub names : IsTrue (list_all (λ x. is_label_name x.name) ms)
  pub narrow : IsTrue (is_narrow ms)

-- a space, a tab, a line feed or a carriage return
abbrev pub is_space : ℕ → Bool
is_space b = b == 32 || b == 9 || b == 10 || b == 13

-- the text is these tokens, in order, with any white space before, between and after them
abbrev pub Spaced : List (List ℕ) → List ℕ → Type 0
Spaced [] text = IsTrue (list_all is_space text)
Spaced (t ∷ ts) text = (space : List ℕ) × (rest : List ℕ) × IsTrue (list_all is_space space) × Spaced ts rest × (text ≡ space ++ (t ++ rest))

-- an operator as it is written
abbrev pub op_token : MatchOp → List ℕ
op_token Equals = codes "="
op_token Differs = codes "!="

-- a quoted value, spelt as in canonical names
abbrev pub quoted : List ℕ → List ℕ
quoted value = codes "\"" ++ (written_value value ++ codes "\"")

-- the tokens of a matcher
abbrev pub match_tokens : Match → List (List ℕ)
match_tokens x = x.name ∷ op_token x.op ∷ quoted x.value ∷ []

-- the tokens of a selector: matchers apart by commas, in braces
abbrev pub selector_tokens : List Match → List (List ℕ)
selector_tokens ms = codes "{" ∷ (join_by match_tokens (codes "," ∷ []) ms ++ codes "}" ∷ [])

-- the text is a selector of these matchers, each with a label name
pub record IsSelectorText (ms : List Match) (text : List ℕ) : Type 0 where
  pub names : IsTrue (list_all (λ x. is_label_name x.name) ms)
  pub spelt : Spaced (selector_tokens ms) text

-- some selector text begins with this text
abbrev pub BeginsSelector : List ℕ → Type 0
BeginsSelector text = (ms : List Match) × (rest : List ℕ) × IsSelectorText ms (text ++ rest)

-- the text is no selector text, and its first `at` bytes are its longest front with which some
-- selector text begins
pub record IsBadSelector (text : List ℕ) (at : ℕ) : Type 0 where
  pub refused : (ms : List Match) → IsSelectorText ms text → ⊥
  pub within : at ≤ length text
  pub begins : BeginsSelector (take at text)
  pub longest : at < length text → BeginsSelector (take (at + 1) text) → ⊥

-- a text has one reading at most
abbrev pub SelectorTextsAreExact : Type 0
SelectorTextsAreExact =
    (ms ns : List Match) (text : List ℕ) → IsSelectorText ms text → IsSelectorText ns text → ms ≡ ns
