-- Entries of a stream that are added to parts.
use Rattle.std.proofs.Common.{◌≡◌, ℕ, List, [], ◌∷◌, ◌++◌, map, ap, sym, ◌∙◌, subst, append-nil, append_assoc}
use Rattle.std.specs.Prelude.{IsPermutation}
use Rattle.std.proofs.lemmas.List.{map-append}
use Rattle.std.proofs.lemmas.List.Sorted.{IsPermutation-refl, IsPermutation-sym, IsPermutation-trans, IsPermutation-append_left, IsPermutation-append_right}
use Rattle.ing_rows.specs.Rows.{Row}
use Rattle.ing_chunk.specs.declared.numbered.Numbered.{Numbered}
use Rattle.ing_parts.specs.declared.found.Found.{Found}
use Rattle.ing_parts.specs.declared.snapshot.Part.{Part}
use Rattle.ing_parts.specs.Parts.{AddsParts, ListsRows, found_among, found_at, found_in, found_of}
use Rattle.ing_parts.proofs.RangeLaws.{found_more}

pub parts_none : {R : Type 0} (ps : List (Part R)) → AddsParts [] ps ps
parts_none ps = record { same = subst (IsPermutation (found_among ps)) (sym (append-nil (found_among ps))) (IsPermutation-refl (found_among ps)) }

pub parts_both : {R : Type 0} (a b : List Found) (old mid new : List (Part R)) → AddsParts a old mid → AddsParts b mid new → AddsParts (a ++ b) old new
parts_both a b old mid new h k = record {
  same =
      subst (IsPermutation (found_among new)) (append_assoc (found_among old) a b)
      (IsPermutation-trans (found_among new) (found_among mid ++ b) ((found_among old ++ a) ++ b) k.same (IsPermutation-append_left b (found_among mid) (found_among old ++ a) h.same));
}

-- the same entries in another order
pub parts_alike : {R : Type 0} (a b : List Found) (old new : List (Part R)) → IsPermutation a b → AddsParts a old new → AddsParts b old new
parts_alike a b old new same h = record {
  same = IsPermutation-trans (found_among new) (found_among old ++ a) (found_among old ++ b) h.same (IsPermutation-append_right (found_among old) a b same);
}

-- one part
pub parts_one : {R : Type 0} (p : Part R) (old new : List (Part R)) → new ≡ old ++ p ∷ [] → AddsParts (found_in p) old new
parts_one p old new is = record {
  same = subst (IsPermutation (found_among new)) (ap found_among is ∙ found_more old p) (IsPermutation-refl (found_among new));
}

-- these entries behind those that were added before them
pub parts_next : {R : Type 0} (name : List ℕ) (xs more all : List Numbered) (old mid new : List (Part R)) → all ≡ xs ++ more → AddsParts (map (found_of name) xs) old mid → AddsParts (map (found_of name) more) mid new → AddsParts (map (found_of name) all) old new
parts_next name xs more all old mid new is h k =
    subst (λ (l : List Found). AddsParts l old new) (sym (map-append (found_of name) xs more) ∙ sym (ap (map (found_of name)) is)) (parts_both (map (found_of name) xs) (map (found_of name) more) old mid new h k)

-- ---- rows that are added one after another

pub listed_both : {R : Type 0} (a b : List Row) (old mid new : List (Part R)) → ListsRows a old mid → ListsRows b mid new → ListsRows (a ++ b) old new
listed_both a b old mid new h k = subst (λ (l : List Found). AddsParts l old new) (sym (map-append found_at a b)) (parts_both (map found_at a) (map found_at b) old mid new h k)

pub listed_of_found : {R : Type 0} (all : List Found) (rows : List Row) (old new : List (Part R)) → IsPermutation (map found_at rows) all → AddsParts all old new → ListsRows rows old new
listed_of_found all rows old new same h = parts_alike all (map found_at rows) old new (IsPermutation-sym (map found_at rows) all same) h
