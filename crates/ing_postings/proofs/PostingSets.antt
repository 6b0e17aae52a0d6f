-- The postings of a label, and the streams that have it.
use Rattle.std.proofs.Common.{◌≡◌, ℕ, Bool, true, false, cond, ◌&&◌, ◌||◌, List, [], ◌∷◌, ◌++◌, map, filter, refl, sym, ap, ◌∙◌}
use lib.Dec.{T}
use Rattle.std.specs.List.{list_any}
use Rattle.std.specs.Str.{bytes_eq}
use Rattle.std.specs.FinMap.{entries, entries_sorted}
use Rattle.std.specs.FinMap.Entries.{is_sorted}
use Rattle.std.proofs.lemmas.Bool.{and_parts}
use Rattle.std.proofs.lemmas.List.{map-append}
use Rattle.std.proofs.lemmas.List.Elements.{filter-append}
use Rattle.ing_labels.specs.Labels.{Pair, name_order}
use Rattle.ing_postings.specs.declared.postings.Listed.{Listed}
use Rattle.ing_postings.specs.Streams.{numbers_of, is_pair, has_label, Posting, postings_of, posted}
use Rattle.ing_postings.proofs.Posted.{once, rest_sorted}

-- the postings of one stream
abbrev pub postings_from : ℕ → List Pair → List Posting
postings_from number = map (λ e. record { name = e.0; value = e.1; number = number })

one_of : (name value : List ℕ) (number : ℕ) (es : List Pair) → T (is_sorted name_order es) → posted name value (postings_from number es) ≡ cond (list_any (is_pair name value) es) (number ∷ []) []
one_of name value number [] sorted = refl
one_of name value number (e ∷ es) sorted =
    let later = one_of name value number es (rest_sorted e es sorted) in
    elim (is_pair name value e) as (λ b. is_pair name value e ≡ b → map (λ p. p.number) (cond b (record { name = e.0; value = e.1; number = number } ∷ filter (λ p. bytes_eq p.name name && bytes_eq p.value value) (postings_from number es)) (filter (λ p. bytes_eq p.name name && bytes_eq p.value value) (postings_from number es))) ≡ cond (b || list_any (is_pair name value) es) (number ∷ []) []) [
      | true ↦ λ h. ap (λ ns. number ∷ ns) (later ∙ ap (λ b. cond b (number ∷ []) []) (once e name value es sorted (and_parts _ _ h).0))
      | false ↦ λ h. later
    ] refl

posted-append : (name value : List ℕ) (ps qs : List Posting) → posted name value (ps ++ qs) ≡ posted name value ps ++ posted name value qs
posted-append name value ps qs =
    let q : Posting → Bool = λ p. bytes_eq p.name name && bytes_eq p.value value in
    ap (map (λ p. p.number)) (filter-append q ps qs) ∙ map-append (λ p. p.number) (filter q ps) (filter q qs)

-- the numbers of the streams with a label are those of its postings
pub labelled_is_posted : (name value : List ℕ) (xs : List Listed) → numbers_of (filter (λ s. has_label name value s.labels) xs) ≡ posted name value (postings_of xs)
labelled_is_posted name value [] = refl
labelled_is_posted name value (x ∷ xs) =
    let rest = labelled_is_posted name value xs in
    let here = one_of name value x.number (entries x.labels) (entries_sorted x.labels) in
    elim (has_label name value x.labels) as (λ b. numbers_of (cond b (x ∷ filter (λ s. has_label name value s.labels) xs) (filter (λ s. has_label name value s.labels) xs)) ≡ cond b (x.number ∷ []) [] ++ posted name value (postings_of xs)) [
      | true ↦ ap (λ ns. x.number ∷ ns) rest
      | false ↦ rest
    ]
    ∙ ap (λ ns. ns ++ posted name value (postings_of xs)) (sym here)
    ∙ sym (posted-append name value (postings_from x.number (entries x.labels)) (postings_of xs))
