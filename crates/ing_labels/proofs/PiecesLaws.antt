-- Pieces of a text: one more, and the one at an index.
use Rattle.std.proofs.Common.{◌≡◌, ℕ, suc, zero, ◌+◌, ◌-◌, ◌≤◌, ◌<◌, List, [], ◌∷◌, ◌++◌, length, get_or, take, drop, refl, sym, ap, subst, ◌∙◌, arith, length-append, length-drop}
use Rattle.std.specs.List.{slice_range}
use Rattle.std.specs.Str.{IsUtf8, IsCharBoundary}
use Rattle.std.proofs.lemmas.Str.{IsCharBoundary-from_drop, IsCharBoundary-end, IsUtf8-drop, IsUtf8-append}
use Rattle.std.proofs.lemmas.List.{drop-append-le, take-append-le, take_all}
use Rattle.std.proofs.Math.Seq.{drop-append_seam, drop-cons}
use Rattle.ing_labels.specs.Pieces.{pieces_from, IsCut, named_texts, pairs_of}
use Rattle.ing_labels.specs.Labels.{Pair}

pub length-pieces_from : (text : List ℕ) (from : ℕ) (ends : List ℕ) → length (pieces_from text from ends) ≡ length ends
length-pieces_from text from [] = refl
length-pieces_from text from (end ∷ ends) = ap suc (length-pieces_from text end ends)

-- the piece at an index
pub piece_at : (text : List ℕ) (from : ℕ) (ends : List ℕ) (k : ℕ) → k < length ends → get_or (pieces_from text from ends) k [] ≡ slice_range text (get_or (from ∷ ends) k 0) (get_or ends k 0)
piece_at text from [] k within = absurd (omega arith)
piece_at text from (end ∷ ends) zero within = refl
piece_at text from (end ∷ ends) (suc k) within = piece_at text end ends k (omega arith)

-- and where it may be cut out
pub record CutAt (text : List ℕ) (from to : ℕ) : Type 0 where
  pub rises : from ≤ to
  pub start : IsCharBoundary text from
  pub end : IsCharBoundary text to

pub cut_at : (text : List ℕ) (from : ℕ) (ends : List ℕ) (k : ℕ) → k < length ends → IsCharBoundary text from → IsCut text from ends → CutAt text (get_or (from ∷ ends) k 0) (get_or ends k 0)
cut_at text from [] k within start cut = absurd (omega arith)
cut_at text from (end ∷ ends) zero within start cut = record { rises = cut.0; start = start; end = cut.1 }
cut_at text from (end ∷ ends) (suc k) within start cut = cut_at text end ends k (omega arith) cut.1 cut.2

same_piece : (text more : List ℕ) (from to : ℕ) → from ≤ to → to ≤ length text → slice_range (text ++ more) from to ≡ slice_range text from to
same_piece text more from to rises within =
    ap (take (to - from)) (drop-append-le from text more (omega arith)) ∙ take-append-le (to - from) (drop from text) more (simp length-drop (omega arith))

last_piece : (text more : List ℕ) → slice_range (text ++ more) (length text) (length (text ++ more)) ≡ more
last_piece text more =
    let rest : length (text ++ more) - length text ≡ length more = omega (arith, length-append text more) in
    ap (take (length (text ++ more) - length text)) (drop-append_seam text more) ∙ ap (λ n. take n more) rest ∙ take_all (length more) more (omega arith)

pub pieces_push : (text more : List ℕ) (from : ℕ) (ends : List ℕ) → IsCut text from ends → pieces_from (text ++ more) from (ends ++ length (text ++ more) ∷ []) ≡ pieces_from text from ends ++ more ∷ []
pieces_push text more from [] cut = ap (λ n. slice_range (text ++ more) n (length (text ++ more)) ∷ []) cut ∙ ap (λ x. x ∷ []) (last_piece text more)
pieces_push text more from (end ∷ ends) cut =
    ap (λ x. x ∷ pieces_from (text ++ more) end (ends ++ length (text ++ more) ∷ [])) (same_piece text more from end cut.0 cut.1.0)
    ∙ ap (λ ps. slice_range text from end ∷ ps) (pieces_push text more end ends cut.2)

boundary_stays : (text more : List ℕ) (at : ℕ) → IsUtf8 text → IsUtf8 more → IsCharBoundary text at → IsCharBoundary (text ++ more) at
boundary_stays text more at good more_good here =
    let within : at ≤ length (text ++ more) = omega (arith, here.0, length-append text more) in
    IsCharBoundary-from_drop (text ++ more) at within (subst IsUtf8 (sym (drop-append-le at text more here.0)) (IsUtf8-append (drop at text) more (IsUtf8-drop text at good here) more_good))

pub cut_push : (text more : List ℕ) (from : ℕ) (ends : List ℕ) → IsUtf8 text → IsUtf8 more → IsCut text from ends → IsCut (text ++ more) from (ends ++ length (text ++ more) ∷ [])
cut_push text more from [] good more_good cut = (omega (arith, cut, length-append text more), IsCharBoundary-end (text ++ more), refl)
cut_push text more from (end ∷ ends) good more_good cut = (cut.0, boundary_stays text more end good more_good cut.1, cut_push text more end ends good more_good cut.2)

-- a name and a value that come in turn
pub pairs_here : (ps : List (List ℕ)) (at : ℕ) → at + 1 < length ps → pairs_of (drop at ps) ≡ (get_or ps at [], get_or ps (at + 1) []) ∷ pairs_of (drop (at + 2) ps)
pairs_here ps at within =
    let one : suc at ≡ at + 1 = omega arith in
    let two : suc (suc at) ≡ at + 2 = omega arith in
    ap pairs_of (drop-cons ps at [] (omega arith) ∙ ap (λ rest. get_or ps at [] ∷ rest) (drop-cons ps (suc at) [] (omega arith)))
    ∙ ap (λ n. (get_or ps at [], get_or ps n []) ∷ pairs_of (drop (suc (suc at)) ps)) one
    ∙ ap (λ n. (get_or ps at [], get_or ps (at + 1) []) ∷ pairs_of (drop n ps)) two

-- fewer than two texts have no pair
pub pairs_end : (ps : List (List ℕ)) (at : ℕ) → length ps - at < 2 → pairs_of (drop at ps) ≡ []
pairs_end ps at few = short (drop at ps) (omega (arith, length-drop at ps)) where
  short : (ps : List (List ℕ)) → length ps < 2 → pairs_of ps ≡ []
  short [] few = refl
  short (name ∷ []) few = refl
  short (name ∷ value ∷ ps) few = absurd (omega arith)

pub pairs_of-named_texts : (ps : List Pair) → pairs_of (named_texts ps) ≡ ps
pairs_of-named_texts [] = refl
pairs_of-named_texts (p ∷ ps) = ap (λ rest. p ∷ rest) (pairs_of-named_texts ps)
