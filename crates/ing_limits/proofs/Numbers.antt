-- The number at a key.
use Rattle.std.proofs.Common.{◌≡◌, ℕ, List, Option, Some, None, option_and_then, ap, ◌∙◌}
use Rattle.std.specs.Option.{unwrap_or}
use Rattle.toml.specs.Data.{Data, Members, get_member}
use Rattle.ing_limits.specs.Settings.{setting, number_of, kind_of}
use Rattle.ing_limits.specs.declared.keys.Kind.{Kind}
use Rattle.ing_limits.specs.declared.keys.Level.{Level}

-- what the setting is of what stands at the key, with the key's kind
abbrev pub number_from : Option Data → Option Kind → ℕ → ℕ
number_from found kind default = unwrap_or (option_and_then (λ d. option_and_then (λ k. number_of k d) kind) found) default

pub absent : (level : Level) (key : List ℕ) (default : ℕ) (ms : Members) → None ≡ get_member key ms → default ≡ setting level key default ms
absent level key default ms e = ap (λ o. number_from o (kind_of level key) default) e

pub unknown : (level : Level) (key : List ℕ) (default : ℕ) (ms : Members) (d : Data) → Some d ≡ get_member key ms → None ≡ kind_of level key → default ≡ setting level key default ms
unknown level key default ms d e k = ap (λ o. number_from (Some d) o default) k ∙ ap (λ o. number_from o (kind_of level key) default) e

pub present : (level : Level) (key : List ℕ) (default : ℕ) (ms : Members) (d : Data) (kind : Kind) → Some d ≡ get_member key ms → Some kind ≡ kind_of level key → unwrap_or (number_of kind d) default ≡ setting level key default ms
present level key default ms d kind e k = ap (λ o. number_from (Some d) o default) k ∙ ap (λ o. number_from o (kind_of level key) default) e
