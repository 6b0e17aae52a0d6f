-- The texts of copied entries.
use Rattle.std.proofs.Common.{◌≡◌, List, [], ◌∷◌, ◌∙◌, refl, ap}
use Rattle.std.specs.List.{AllZip}
use Rattle.std.specs.String.{string_bytes}
use Rattle.std.specs.declared.string.String.{String}
use Rattle.ing_labels.specs.Texts.{entry_texts}

pub copied_texts : {Z : Type 0} (es fs : List (String Z × String Z)) → AllZip (λ p q. (string_bytes q.0 ≡ string_bytes p.0) × (string_bytes q.1 ≡ string_bytes p.1)) es fs → entry_texts fs ≡ entry_texts es
copied_texts [] [] all = refl
copied_texts [] (f ∷ fs) all = absurd all
copied_texts (e ∷ es) [] all = absurd all
copied_texts (e ∷ es) (f ∷ fs) all =
    ap (λ n. (n, string_bytes f.1) ∷ entry_texts fs) all.0.0
    ∙ ap (λ v. (string_bytes e.0, v) ∷ entry_texts fs) all.0.1
    ∙ ap (λ ts. (string_bytes e.0, string_bytes e.1) ∷ ts) (copied_texts es fs all.1)
