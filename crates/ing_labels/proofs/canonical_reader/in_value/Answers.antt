use Rattle.std.proofs.Common.{◌≡◌, ℕ, false, cond, ◌==◌, List, length, Option, Some, None, sym, ap, ◌∙◌}
use Rattle.std.specs.FinMap.{put}
use Rattle.std.specs.String.{string_bytes}
use Rattle.ing_labels.specs.Labels.{Pair, name_order}
use Rattle.ing_labels.specs.Texts.{entry_texts}
use Rattle.ing_labels.specs.CanonicalReading.{Reading, Matched, InValue, step_char}
use Rattle.ing_labels.proofs.Made.{texts-insert_entry}
use Rattle.ing_labels.proofs.canonical_reader.in_value.Goals as goal

value_ends : (ps : List Pair) (n v : List ℕ) (c : ℕ) → c ≡ 34 → (length v == 0) ≡ false → Some (Matched (put name_order n v ps)) ≡ step_char (InValue ps n v) c
value_ends ps n v c is some =
    let read : Option Reading = Some (Matched (put name_order n v ps)) in
    let none : Option Reading = None in
    ap (λ b. cond b none read) (sym some) ∙ ap (step_char (InValue ps n v)) (sym is)

pub returns-in_ok-insert-in-34-2 : goal.returns-in_ok-insert-in-34-2
returns-in_ok-insert-in-34-2 c =
    ap (λ es. Some (Matched (entry_texts es))) c.in_ok-insert-in-34-2.ensures.entries
    ∙ ap (λ ps. Some (Matched ps)) (texts-insert_entry c.args.read.entries c.args.name c.args.value)
    ∙ value_ends (entry_texts c.args.read.entries) (string_bytes c.args.name) (string_bytes c.args.value) c.args.c c.in-34.is (sym (c.is_empty.ensures ∙ ap (λ s. length s == 0) c.as_str.ensures.value) ∙ c.if-is_empty.false)
