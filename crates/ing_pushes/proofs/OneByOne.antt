-- Members of an object, read one by one.
use Rattle.std.proofs.Common.{◌≡◌, ℕ, ◌+◌, ◌<◌, ◌≤◌, List, [], ◌∷◌, ◌++◌, map, take, length, get_or, Some, sym, ap, ◌∙◌}
use Rattle.std.proofs.lemmas.List.{take_all, take_more, map-append, append_assoc, append-nil}
use Rattle.std.specs.Borrow.{Bor}
use Rattle.std.specs.declared.alloc.Global.{Global}
use Rattle.json.specs.Json as json
use Rattle.json.specs.Value.{value_view, members_of, members_view}
use Rattle.json.specs.declared.value.Value.{Value}
use Rattle.serde_json.specs.Data.{Members, no_members}
use Rattle.serde_json.specs.Read.{of_members}

abbrev pub Member : Type 0
Member = Bor (List ℕ) × Value Global

abbrev pub json_members : List Member → List (Bor (List ℕ) × json.Json)
json_members ms = map (λ m. (m.0, value_view m.1)) ms

-- so many members are read as these
abbrev pub Reads : List Member → ℕ → Members → Type 0
Reads ms at found = (rest : List (Bor (List ℕ) × json.Json)) → of_members (members_of (json_members (take at ms) ++ rest)) no_members ≡ of_members (members_of rest) found

-- one more member
pub reads_more : (ms : List Member) (at : ℕ) (m : Member) (old new : Members) → at < length ms → m ≡ get_or ms at m → Reads ms at old → ((rest : json.Members) → of_members (json.member m.0.now (value_view m.1) rest) old ≡ of_members rest new) → Reads ms (at + 1) new
reads_more ms at m old new within is reads step rest =
    let next : json_members (take (at + 1) ms) ≡ json_members (take at ms) ++ (m.0, value_view m.1) ∷ [] = ap json_members (take_more ms at m within) ∙ map-append _ (take at ms) _ ∙ ap (λ n. json_members (take at ms) ++ (n.0, value_view n.1) ∷ []) (sym is) in
    ap (λ js. of_members (members_of (js ++ rest)) no_members) next
    ∙ ap (λ js. of_members (members_of js) no_members) (append_assoc (json_members (take at ms)) ((m.0, value_view m.1) ∷ []) rest)
    ∙ reads ((m.0, value_view m.1) ∷ rest)
    ∙ step (members_of rest)

-- all of them
pub reads_all : (ms : List Member) (at : ℕ) (found : Members) → length ms ≤ at → Reads ms at found → of_members (members_view ms) no_members ≡ Some found
reads_all ms at found all reads =
    ap (λ xs. of_members (members_view xs) no_members) (sym (take_all at ms all))
    ∙ ap (λ js. of_members (members_of js) no_members) (sym (append-nil (json_members (take at ms))))
    ∙ reads []
