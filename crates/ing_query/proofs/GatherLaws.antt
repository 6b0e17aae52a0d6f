-- What stands in memory and what waits are together what is wanted.
use Rattle.std.proofs.Common.{◌≡◌, ℕ, List, [], ◌∷◌, ◌++◌, append_assoc, append-nil, refl, ap, sym, ◌∙◌, subst}
use Rattle.std.specs.List.{flat_map}
use Rattle.std.specs.List.Sorted.{IsPermutation}
use Rattle.std.proofs.lemmas.List.Elements.{filter-append}
use Rattle.std.proofs.lemmas.List.Sorted.{IsPermutation-refl, IsPermutation-trans, IsPermutation-append, IsPermutation-append_left, IsPermutation-append_right, IsPermutation-append_comm}
use Rattle.ing_chunk.specs.Chunks.{in_blocks}
use Rattle.ing_parts.specs.declared.found.Found.{Found}
use Rattle.ing_parts.specs.declared.snapshot.Part.{Part}
use Rattle.ing_parts.specs.declared.snapshot.Snapshot.{Snapshot}
use Rattle.ing_parts.specs.declared.snapshot.Source.{Source}
use Rattle.ing_parts.specs.declared.snapshot.Source.TheVariants.{Block, Stored}
use Rattle.ing_parts.specs.Parts.{asked, entries_in, found_between, found_in, wanted, within, is_within}
use Rattle.ing_parts.specs.Questions.{Question, question_view}
use Rattle.ing_parts.specs.declared.found.Question as code
use Rattle.ing_query.specs.Answers.{wanted_in}
use Rattle.ing_query.specs.Gathered.{wanted_there, in_memory, in_store, memory_in, waiting_in, memory_of, waiting_of}

-- ---- steps of loops

module _ {X W : Type 0} (m : X → List Found) (w : X → List W) where
  pub waiting_step : (x : X) (rest left : List X) (old new goal : List W) → left ≡ x ∷ rest → new ≡ old ++ w x → old ++ flat_map w left ≡ goal → new ++ flat_map w rest ≡ goal
  waiting_step x rest left old new goal is step so_far =
      ap (λ l. l ++ flat_map w rest) step ∙ append_assoc old (w x) (flat_map w rest) ∙ sym (ap (λ l. old ++ flat_map w l) is) ∙ so_far

  -- ---- together

  crossed : (a b c d : List Found) → IsPermutation ((a ++ b) ++ (c ++ d)) ((a ++ c) ++ (b ++ d))
  crossed a b c d =
      subst (λ l. IsPermutation l ((a ++ c) ++ (b ++ d))) (sym (append_assoc a b (c ++ d)))
      (subst (λ l. IsPermutation (a ++ (b ++ (c ++ d))) l) (sym (append_assoc a c (b ++ d)))
      (IsPermutation-append_right a (b ++ (c ++ d)) (c ++ (b ++ d))
      (subst (λ l. IsPermutation l (c ++ (b ++ d))) (append_assoc b c d)
      (subst (λ l. IsPermutation ((b ++ c) ++ d) l) (append_assoc c b d)
      (IsPermutation-append_left d (b ++ c) (c ++ b) (IsPermutation-append_comm b c))))))

  module _ (f : X → List Found) (t : W → List Found) (each : (x : X) → IsPermutation (m x ++ flat_map t (w x)) (f x)) where
    flat_append : (us vs : List W) → flat_map t (us ++ vs) ≡ flat_map t us ++ flat_map t vs
    flat_append [] vs = refl
    flat_append (u ∷ us) vs = ap (λ l. t u ++ l) (flat_append us vs) ∙ sym (append_assoc (t u) (flat_map t us) (flat_map t vs))

    pub together : (xs : List X) → IsPermutation (flat_map m xs ++ flat_map t (flat_map w xs)) (flat_map f xs)
    together [] = IsPermutation-refl []
    together (x ∷ xs) =
        IsPermutation-trans ((m x ++ flat_map m xs) ++ flat_map t (w x ++ flat_map w xs)) ((m x ++ flat_map t (w x)) ++ (flat_map m xs ++ flat_map t (flat_map w xs))) (f x ++ flat_map f xs)
        (subst (λ l. IsPermutation ((m x ++ flat_map m xs) ++ l) ((m x ++ flat_map t (w x)) ++ (flat_map m xs ++ flat_map t (flat_map w xs)))) (sym (flat_append (w x) (flat_map w xs)))
        (crossed (m x) (flat_map m xs) (flat_map t (w x)) (flat_map t (flat_map w xs))))
        (IsPermutation-append (m x ++ flat_map t (w x)) (f x) (flat_map m xs ++ flat_map t (flat_map w xs)) (flat_map f xs) (each x) (together xs))

within_flat : {X : Type 0} (f : X → List Found) (q : Question) (xs : List X) → within q (flat_map f xs) ≡ flat_map (λ x. within q (f x)) xs
within_flat f q [] = refl
within_flat f q (x ∷ xs) = filter-append (is_within q) (f x) (flat_map f xs) ∙ ap (λ l. within q (f x) ++ l) (within_flat f q xs)

source_is : {R : Type 0} (name : List ℕ) (q : code.Question) (source : Source R) → in_memory name q source ++ flat_map wanted_there (in_store name q source) ≡ found_between name (question_view q) (entries_in source)
source_is name q (Block block) = append-nil (found_between name (question_view q) block)
source_is name q (Stored listing) = append-nil (found_between name (question_view q) (in_blocks listing.blocks))

part_is : {R : Type 0} (q : code.Question) (p : Part R) → IsPermutation (memory_in q p ++ flat_map wanted_there (waiting_in q p)) (within (question_view q) (found_in p))
part_is q p = subst (IsPermutation (memory_in q p ++ flat_map wanted_there (waiting_in q p))) (source_is p.name q p.source) (IsPermutation-refl (memory_in q p ++ flat_map wanted_there (waiting_in q p)))

snapshot_is : {R : Type 0} (s : Snapshot R) → IsPermutation (memory_of s ++ flat_map wanted_there (waiting_of s)) (wanted s)
snapshot_is s =
    let parts = flat_map (memory_in s.question) s.parts.items in
    let there = flat_map wanted_there (waiting_of s) in
    let each = subst (IsPermutation (parts ++ there)) (sym (within_flat found_in (asked s) s.parts.items))
    (together (memory_in s.question) (waiting_in s.question) (λ p. within (asked s) (found_in p)) wanted_there (part_is s.question) s.parts.items) in
    subst (λ l. IsPermutation l (wanted s)) (sym (append_assoc s.best.held parts there)) (IsPermutation-append_right s.best.held (parts ++ there) (within (asked s) (flat_map found_in s.parts.items)) each)

pub all_wanted : {R : Type 0} (snapshots : List (Snapshot R)) → IsPermutation (flat_map memory_of snapshots ++ flat_map wanted_there (flat_map waiting_of snapshots)) (wanted_in snapshots)
all_wanted snapshots = together memory_of waiting_of wanted wanted_there snapshot_is snapshots
