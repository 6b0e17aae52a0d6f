-- How what is written stands to the data of a reply.
use Rattle.std.specs.Prelude.{◌≡◌, ℕ, List, [], ◌∷◌, ◌++◌}
use Rattle.json.specs.Token.{Token, key}
use Rattle.json.specs.Tree.{json_tokens, members_tokens}
use Rattle.json.specs.Written.{Written}
use Rattle.serde_json.specs.Data.{Data, Members}
use Rattle.serde_json.specs.Written.{members_outline, outline}

-- the tokens that a value is written as
abbrev pub data_tokens : Data → List Token
data_tokens d = json_tokens (outline d)

-- those of a member
abbrev pub member_tokens : List ℕ → Data → List Token
member_tokens name d = key name ∷ data_tokens d

-- those of the last members of an object, with its end
abbrev pub last_tokens : Members → List Token
last_tokens ms = members_tokens (members_outline ms)

-- those of values side by side
abbrev pub tokens_of_each : List Data → List Token
tokens_of_each [] = []
tokens_of_each (d ∷ ds) = data_tokens d ++ tokens_of_each ds

-- these tokens are added
abbrev pub Adds : Written → Written → List Token → Type 0
Adds old new ts = new.tokens ≡ old.tokens ++ ts
