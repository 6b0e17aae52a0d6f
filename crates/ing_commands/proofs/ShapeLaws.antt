-- Reading lists of values one after the other, as a loop does.
use Rattle.std.proofs.Common.{◌≡◌, ◌<◌, ◌≤◌, true, List, [], ◌∷◌, ◌++◌, length, get_or, Result, Ok, Err, refl, sym, ap, ◌∙◌, arith}
use Rattle.serde_json.specs.declared.value.Value.{Value}
use Rattle.serde_json.specs.View.{view, items_view}
use Rattle.ing_commands.specs.declared.fault.LineFault.{LineFault}
use Rattle.ing_commands.specs.declared.fault.LineFault.TheVariants.{BadCommand}
use Rattle.ing_refusals.specs.Results.{◌>>=◌}
use Rattle.ing_commands.specs.PushCommands.{raw_texts, raw_elements}

-- what was read before, and what is still read
abbrev pub with_front : {A : Type 0} → List A → Result (List A) LineFault → Result (List A) LineFault
with_front front read = read >>= λ rest. Ok (front ++ rest)

-- ---- the elements of a value

pub three_elements : (xs : List Value) (a b : Value) → 3 ≤ length xs → length xs < 4 → a ≡ get_or xs 0 a → b ≡ get_or xs 1 b → raw_elements (items_view xs) ≡ raw_texts (view a) (view b) true
three_elements [] a b low high first second = absurd (omega arith)
three_elements (x ∷ []) a b low high first second = absurd (omega arith)
three_elements (x ∷ y ∷ []) a b low high first second = absurd (omega arith)
three_elements (x ∷ y ∷ z ∷ []) a b low high first second =
    let one : a ≡ x = first in
    let two : b ≡ y = second in
    ap (λ v. raw_texts (view v) (view y) true) (sym one) ∙ ap (λ v. raw_texts (view a) (view v) true) (sym two)
three_elements (x ∷ y ∷ z ∷ w ∷ ws) a b low high first second = absurd (omega arith)

pub few_elements : (xs : List Value) → length xs < 2 → raw_elements (items_view xs) ≡ Err BadCommand
few_elements [] lt = refl
few_elements (x ∷ []) lt = refl
few_elements (x ∷ y ∷ ys) lt = absurd (omega arith)

pub many_elements : (xs : List Value) → 4 ≤ length xs → raw_elements (items_view xs) ≡ Err BadCommand
many_elements [] le = absurd (omega arith)
many_elements (x ∷ []) le = absurd (omega arith)
many_elements (x ∷ y ∷ []) le = absurd (omega arith)
many_elements (x ∷ y ∷ z ∷ []) le = absurd (omega arith)
many_elements (x ∷ y ∷ z ∷ w ∷ ws) le = refl
