-- What was read of parts and of streams.
use Rattle.std.proofs.Common.{◌≡◌, ◌<◌, ℕ, zero, suc, List, [], ◌∷◌, ◌++◌, length, map, append-nil, take, Option, Some, None, refl, ap, sym, subst, ◌∙◌, arith}
use Rattle.std.specs.Prelude.{IfSome, IsPermutation, slice_get, slice_index_or}
use Rattle.std.proofs.lemmas.List.{map-append}
use Rattle.std.proofs.lemmas.Grind.{flat_map-append}
use Rattle.std.proofs.lemmas.List.Sorted.{IsPermutation-append_left, IsPermutation-map, IsPermutation-sym, IsPermutation-trans}
use Rattle.ing_chunk.specs.declared.numbered.Numbered.{Numbered}
use Rattle.ing_rows.specs.Rows.{Row}
use Rattle.ing_parts.specs.declared.found.Found.{Found}
use Rattle.ing_parts.specs.declared.snapshot.Part.{Part}
use Rattle.ing_parts.specs.Parts.{found_among, found_at, found_in}
use Rattle.ctl_export.specs.Reads.{numbered_of, numbered_row}

-- ---- one part after another

pub got : {X : Type 0} (xs : List X) (i : ℕ) (x d : X) → i < length xs → x ≡ slice_index_or xs i d → slice_get xs i ≡ Some x
got [] i x d below is = absurd (omega (arith, below))
got (y ∷ xs) zero x d below is = ap Some (sym is)
got (y ∷ xs) (suc i) x d below is = got xs i x d (omega (arith, below)) is

take_next : {X : Type 0} (xs : List X) (i : ℕ) (x : X) → slice_get xs i ≡ Some x → take (suc i) xs ≡ take i xs ++ x ∷ []
take_next [] i x is = absurd cc
take_next (y ∷ xs) zero x is = let same : y ≡ x = cc in ap (λ z. z ∷ []) same
take_next (y ∷ xs) (suc i) x is = ap (λ l. y ∷ l) (take_next xs i x is)

pub parts_next : {R : Type 0} (ps : List (Part R)) (i : ℕ) (p : Part R) (old new : List Numbered) → slice_get ps i ≡ Some p
    → IsPermutation (map numbered_of (found_among (take i ps))) old
    → IsPermutation (old ++ map numbered_of (found_in p)) new
    → IsPermutation (map numbered_of (found_among (take (suc i) ps))) new
parts_next ps i p old new at before more =
    let front = found_among (take i ps) in
    let mine = map numbered_of (found_in p) in
    let split : map numbered_of (found_among (take (suc i) ps)) ≡ map numbered_of front ++ mine =
    ap (λ l. map numbered_of (found_among l)) (take_next ps i p at)
    ∙ ap (map numbered_of) (flat_map-append found_in (take i ps) (p ∷ []) ∙ ap (λ l. front ++ l) (append-nil (found_in p)))
    ∙ map-append numbered_of front (found_in p) in
    subst (λ l. IsPermutation l new) (sym split)
    (IsPermutation-trans (map numbered_of front ++ mine) (old ++ mine) new (IsPermutation-append_left mine (map numbered_of front) old before) more)

-- ---- a stream

rows_again : (rs : List Row) → map numbered_of (map found_at rs) ≡ map numbered_row rs
rows_again [] = refl
rows_again (r ∷ rs) = ap (λ l. numbered_row r ∷ l) (rows_again rs)

-- the entries of a stream, where its parts have them
pub rows_read : (fs : List Found) (rs : List Row) (es : List Numbered) → IsPermutation fs (map found_at rs) → IsPermutation (map numbered_of fs) es → IsPermutation (map numbered_row rs) es
rows_read fs rs es found read =
    let theirs = map numbered_of (map found_at rs) in
    subst (λ l. IsPermutation l es) (rows_again rs)
    (IsPermutation-trans theirs (map numbered_of fs) es (IsPermutation-sym (map numbered_of fs) theirs (IsPermutation-map numbered_of fs (map found_at rs) found)) read)

-- a number below that of all is there
pub listed_there : {X : Type 0} (xs : List X) (i : ℕ) → i < length xs → slice_get xs i ≡ None → ⊥
listed_there [] i below none = omega (arith, below)
listed_there (x ∷ xs) zero below none = absurd cc
listed_there (x ∷ xs) (suc i) below none = listed_there xs i (omega (arith, below)) none

pub if_some_is : {X : Type 0} (P : X → Type 0) (o : Option X) (x : X) → o ≡ Some x → IfSome o P → P x
if_some_is P o x is holds = subst (λ p. IfSome p P) is holds
