-- The tokens of a reply, part by part, and replies line by line.
use Rattle.std.proofs.Common.{◌≡◌, ℕ, ◌+◌, ◌<◌, List, [], ◌∷◌, ◌++◌, length, get_or, take, map, refl, sym, ap, ◌∙◌, append_assoc, append-nil}
use Rattle.std.proofs.lemmas.List.{take_more, map-append}
use Rattle.json.specs.Token.{end_array}
use Rattle.json.specs.Tree.{items_tokens}
use Rattle.serde_json.specs.Data.{Data}
use Rattle.serde_json.specs.View.{items_of}
use Rattle.serde_json.specs.Written.{items_outline}
use Rattle.ing_session.specs.Replies.{line_text}
use Rattle.ing_session.specs.Runs.{lines_text}
use Rattle.ing_session.specs.Written.{data_tokens, tokens_of_each}

-- ---- values side by side

each_more : (ds : List Data) (d : Data) → tokens_of_each (ds ++ d ∷ []) ≡ tokens_of_each ds ++ data_tokens d
each_more [] d = append-nil (data_tokens d)
each_more (e ∷ ds) d = ap (λ ts. data_tokens e ++ ts) (each_more ds d) ∙ sym (append_assoc (data_tokens e) (tokens_of_each ds) (data_tokens d))

-- one more of a list
pub each_taken : {A : Type 0} (f : A → Data) (xs : List A) (i : ℕ) (d : A) → i < length xs → tokens_of_each (map f (take (i + 1) xs)) ≡ tokens_of_each (map f (take i xs)) ++ data_tokens (f (get_or xs i d))
each_taken f xs i d lt =
    ap (λ l. tokens_of_each (map f l)) (take_more xs i d lt) ∙ ap tokens_of_each (map-append f (take i xs) (get_or xs i d ∷ [])) ∙ each_more (map f (take i xs)) (f (get_or xs i d))

-- ---- replies, each as a line

lines_more : (ds : List Data) (d : Data) → lines_text (ds ++ d ∷ []) ≡ lines_text ds ++ line_text d
lines_more [] d = append-nil (line_text d)
lines_more (e ∷ ds) d = ap (λ text. line_text e ++ text) (lines_more ds d) ∙ sym (append_assoc (line_text e) (lines_text ds) (line_text d))

-- one more of a list
pub lines_taken : {A : Type 0} (f : A → Data) (xs : List A) (i : ℕ) (d : A) → i < length xs → lines_text (map f (take (i + 1) xs)) ≡ lines_text (map f (take i xs)) ++ line_text (f (get_or xs i d))
lines_taken f xs i d lt =
    ap (λ l. lines_text (map f l)) (take_more xs i d lt) ∙ ap lines_text (map-append f (take i xs) (get_or xs i d ∷ [])) ∙ lines_more (map f (take i xs)) (f (get_or xs i d))

-- ---- an array

-- its elements, with its closing bracket
pub items_listed : (ds : List Data) → items_tokens (items_outline (items_of ds)) ≡ tokens_of_each ds ++ end_array ∷ []
items_listed [] = refl
items_listed (d ∷ ds) = ap (λ ts. data_tokens d ++ ts) (items_listed ds) ∙ sym (append_assoc (data_tokens d) (tokens_of_each ds) (end_array ∷ []))
