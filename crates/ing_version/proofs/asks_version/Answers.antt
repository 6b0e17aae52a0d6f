use Rattle.std.proofs.Common.{◌≡◌, ℕ, ◌<◌, ◌≤◌, Bool, IsTrue, List, [], ◌∷◌, length, get_or, bytes_eq, sym, ap, ◌∙◌, arith}
use Rattle.std.proofs.lemmas.Slice.Eq.{bytes_eq-Decides}
use Rattle.ing_version.proofs.asks_version.Goals as goal

only : {A : Type 0} → (words : List A) (word : A) → 1 ≤ length words → length words < 2 → word ≡ get_or words 0 word → words ≡ word ∷ []
only [] word some few here = absurd (omega arith)
only (first ∷ []) word some few here = ap (λ w. w ∷ []) (sym here)
only (first ∷ second ∷ rest) word some few here = absurd (omega arith)

-- a list of one text is another exactly where the texts are compared as equal
compared : (word text now : List ℕ) (same : Bool) → same ≡ bytes_eq now text → now ≡ word
    → (IsTrue same → (word ∷ []) ≡ (text ∷ [])) × ((word ∷ []) ≡ (text ∷ []) → IsTrue same)
compared word text now same told is =
    let e : same ≡ bytes_eq word text = told ∙ ap (λ w. bytes_eq w text) is in (
      λ t. ap (λ w. w ∷ []) ((bytes_eq-Decides word text).0 (sym e ∙ t)),
      λ q. let one : word ≡ text = cc in e ∙ (bytes_eq-Decides word text).1 one,
    )

pub returns-in-len1 : goal.returns-in-len1
returns-in-len1 c =
    let e = only c.args.words.now c.word-item.result (omega arith) (omega arith) c.word-item.is in
    rw e (compared _ _ c.as_str.result.now c.eq.result c.eq.ensures c.as_str.ensures.value)
