-- Entries that are offered one after another, and lists that are walked.
use Rattle.std.proofs.Common.{◌≡◌, ℕ, ◌+◌, ◌<◌, List, [], ◌∷◌, ◌++◌, map, append_assoc, append-nil, length, drop, take, get_or, suc, add-one, drop-cons, refl, ap, sym, ◌∙◌, subst, arith}
use Rattle.std.specs.List.{flat_map}
use Rattle.ing_parts.specs.declared.found.Found.{Found}
use Rattle.std.proofs.lemmas.List.{map-append, take_more}
use Rattle.ing_chunk.specs.declared.numbered.Numbered.{Numbered}
use Rattle.ing_chunk.specs.Chunks.{in_blocks}
use Rattle.ing_parts.specs.Answers.{BestState, Offers}
use Rattle.ing_parts.specs.Parts.{found_of}

-- what is left from an index on
pub left_from : {X : Type 0} (xs : List X) (i : ℕ) (x : X) → i < length xs → x ≡ get_or xs i x → drop i xs ≡ x ∷ drop (i + 1) xs
left_from xs i x within is = rw (add-one) (drop-cons xs i x within ∙ ap (λ y. y ∷ drop (suc i) xs) (sym is))

-- up to an index and one more
pub up_to : {X : Type 0} (xs : List X) (i : ℕ) (x : X) → i < length xs → x ≡ get_or xs i x → take (i + 1) xs ≡ take i xs ++ x ∷ []
up_to xs i x within is = take_more xs i x within ∙ ap (λ y. take i xs ++ y ∷ []) (sym is)

-- the entries of blocks, one block more
pub in_blocks_more : (bs : List (List Numbered)) (b : List Numbered) → in_blocks (bs ++ b ∷ []) ≡ in_blocks bs ++ b
in_blocks_more [] b = append-nil b
in_blocks_more (c ∷ bs) b = ap (λ l. c ++ l) (in_blocks_more bs b) ∙ sym (append_assoc c (in_blocks bs) b)

pub empty_is : {X : Type 0} (xs : List X) → length xs ≡ 0 → xs ≡ []
empty_is [] h = refl
empty_is (x ∷ xs) h = absurd (omega (arith, h))

-- one entry offers these and goes ahead of the others that are left
module _ (both : (x y : List Found) (old mid new : BestState) → Offers x old mid → Offers y mid new → Offers (x ++ y) old new) {X : Type 0} (m : X → List Found) where
  pub offers_step : (x : X) (rest left : List X) (all : List Found) (old mid new last : BestState) → left ≡ x ∷ rest → Offers (m x) mid new → ((last : BestState) → Offers (flat_map m left) mid last → Offers all old last) → Offers (flat_map m rest) new last → Offers all old last
  offers_step x rest left all old mid new last is one before h = before last (subst (λ l. Offers (flat_map m l) mid last) (sym is) (both (m x) (flat_map m rest) mid new last one h))

-- entries that are copied one after another
pub copy_step : (name : List ℕ) (block rest left : List Numbered) (old new goal : List Found) → left ≡ block ++ rest → new ≡ old ++ map (found_of name) block → old ++ map (found_of name) left ≡ goal → new ++ map (found_of name) rest ≡ goal
copy_step name block rest left old new goal is step so_far =
    ap (λ l. l ++ map (found_of name) rest) step ∙ append_assoc old (map (found_of name) block) (map (found_of name) rest)
    ∙ ap (λ l. old ++ l) (sym (map-append (found_of name) block rest)) ∙ sym (ap (λ l. old ++ map (found_of name) l) is) ∙ so_far
