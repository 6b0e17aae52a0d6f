use Rattle.std.proofs.Common.{◌≡◌, length, not, ◌==◌, [], true, false, Bool, ℕ, List, ap, sym, ◌∙◌, arith}
use Rattle.std.specs.Borrow.{Bor}
use Rattle.std.specs.FinMap.{entries, from_entries}
use Rattle.std.proofs.lemmas.List.{length-map, get_or-map}
use Rattle.ing_labels.specs.Labels.{Pair, texts, has_value, name_order}
use Rattle.ing_labels.specs.Texts.{entry_texts}
use Rattle.ing_labels.proofs.Made.{entries-empty, kept_more, kept_same}
use Rattle.ing_labels.proofs.checks.values_by_name.Goals as goal
use Rattle.ing_labels.proofs.checks.values_by_name.Goals.{then-not-is_empty+in_ok-name+in_ok-value+in_ok-insert+in-Some-1, then-not-is_empty+in_ok-name+in_ok-value+in_ok-insert+in-None-1, else-not-is_empty}

pub loop-name-init : goal.loop-name-init
loop-name-init c = ap entry_texts c.new-values.ensures.empty ∙ sym entries-empty

-- the pair of this turn
pair_here : (a b : Pair) (k v : List ℕ) → a ≡ b → k ≡ b.0 → v ≡ b.1 → a ≡ (k, v)
pair_here a b k v same name value = same ∙ ap (λ n. (n, b.1)) (sym name) ∙ ap (λ s. (k, s)) (sym value)

-- and its value is not empty
valued_here : (r : Bool) (value v : List ℕ) → r ≡ (length value == 0) → r ≡ false → v ≡ value → not (length v == 0) ≡ true
valued_here r value v is full same = ap (λ s. not (length s == 0)) same ∙ ap not (sym is ∙ full)

pub loop-name-preserved : goal.loop-name-preserved
loop-name-preserved c =
    let refs = c.args.pairs.now in
    let i = c.loop-name.name-index in
    let as_long : length (texts refs) ≡ length refs = length-map refs _ in
    let text_of : Bor (List ℕ) × Bor (List ℕ) → Pair = λ p. (p.0.now, p.1.now) in
    let item = get_or-map text_of refs i (record { ref_ptr = (0, 0); now = [] }, record { ref_ptr = (0, 0); now = [] }) ([], []) c.loop-name-test.true in
    elim c.if-not-is_empty.branch [
      | then-not-is_empty+in_ok-name+in_ok-value+in_ok-insert+in-Some-1 w ↦
          ap (λ m. entry_texts m.entries) w.values-is
          ∙ ap entry_texts w.in_ok-insert.ensures.entries
          ∙ kept_more (texts refs) i c.loop-name.values.entries w.in_ok-name.name w.in_ok-value.value (omega arith) c.requires c.loop-name.invariant (pair_here _ _ _ _ item w.in_ok-name.ensures.ok w.in_ok-value.ensures.ok) (valued_here _ _ _ c.is_empty.ensures w.if-not-is_empty.true w.in_ok-value.ensures.ok)
      | then-not-is_empty+in_ok-name+in_ok-value+in_ok-insert+in-None-1 w ↦
          ap (λ m. entry_texts m.entries) w.values-is
          ∙ ap entry_texts w.in_ok-insert.ensures.entries
          ∙ kept_more (texts refs) i c.loop-name.values.entries w.in_ok-name.name w.in_ok-value.value (omega arith) c.requires c.loop-name.invariant (pair_here _ _ _ _ item w.in_ok-name.ensures.ok w.in_ok-value.ensures.ok) (valued_here _ _ _ c.is_empty.ensures w.if-not-is_empty.true w.in_ok-value.ensures.ok)
      | else-not-is_empty w ↦
          ap (λ m. entry_texts m.entries) w.values-is
          ∙ c.loop-name.invariant
          ∙ sym (ap (λ ps. entries (from_entries {R = name_order} ps)) (kept_same (texts refs) i (omega arith) (ap has_value item ∙ ap not (sym c.is_empty.ensures ∙ w.if-not-is_empty.false))))
    ]
