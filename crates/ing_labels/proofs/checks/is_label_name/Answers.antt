use Rattle.std.proofs.Common.{◌≡◌, ℕ, ◌-◌, ◌≤◌, length, get_or, take, drop, ◌&&◌, true, List, [], ◌∷◌, sym, ap, ◌∙◌, arith}
use Rattle.std.specs.List.{list_all}
use Rattle.std.proofs.lemmas.Grind.{common_steps}
use Rattle.ing_labels.specs.Names as names
use Rattle.ing_labels.proofs.checks.is_label_name.Goals as goal

-- a name's first byte and the others
name_parts : (bs : List ℕ) → 1 ≤ length bs → names.is_label_name bs ≡ (names.is_name_start (get_or bs 0 0) && list_all names.is_name_byte (take (length bs - 1) (drop 1 bs)))
name_parts [] h = absurd (omega arith)
name_parts (b ∷ bs) h =
    let all : take (length (b ∷ bs) - 1) (drop 1 (b ∷ bs)) ≡ bs = grind (arith, common_steps) in
    ap (λ s. names.is_name_start b && list_all names.is_name_byte s) (sym all)

pub returns-then-is_name_start : goal.returns-then-is_name_start
returns-then-is_name_start c =
    let parts = name_parts c.as_bytes.result.now c.in-len1-up.len_at_least in
    let start : names.is_name_start (get_or c.as_bytes.result.now 0 0) ≡ true = cc in
    let there : names.is_label_name c.args.name.now ≡ names.is_label_name c.as_bytes.result.now = ap names.is_label_name (sym c.as_bytes.ensures.value) in
    c.are_name_bytes.ensures ∙ sym (there ∙ parts ∙ ap (λ s. s && list_all names.is_name_byte (take (length c.as_bytes.result.now - 1) (drop 1 c.as_bytes.result.now))) start)
