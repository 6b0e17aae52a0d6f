-- The first place in a list that passes a test.
use Rattle.std.proofs.Common.{◌≡◌, ℕ, suc, ◌+◌, ◌<◌, ◌≤◌, length, get_or, take, not, position, filter, map, Some, None, Bool, true, false, cond, nat_lt, ◌||◌, List, [], ◌∷◌, ◌++◌, refl, sym, ap, ◌∙◌, arith}
use Rattle.std.specs.List.{prefix_len, position_or_len, enumerate_from}
use Rattle.std.proofs.lemmas.List.{length-map}
use Rattle.std.proofs.lemmas.List.Sums.{position_or_len_is, prefix_len_passes}
use Rattle.std.proofs.lemmas.List.FromFn.{length-enumerate_from, get_or-enumerate_from}
use Rattle.std.specs.Borrow.{Bor}
use Rattle.std.specs.BTreeSet.{BTreeSet, contains_by}
use Rattle.std.specs.Ordering.{nat_cmp, is_eq}
use Rattle.std.specs.Cmp.Lexicographic.{slice_cmp}
use Rattle.std.specs.Str.{bytes_eq}
use Rattle.std.proofs.lemmas.List.{get_or-map, take_more}
use Rattle.std.proofs.lemmas.List.Folds.{list_any-append}
use Rattle.std.proofs.lemmas.Map.Text.{is_eq-slice_cmp}
use Rattle.std.proofs.lemmas.Bool.{not-true}
use Rattle.ing_labels.specs.Labels.{Pair, texts, is_named, first_repeated_name}

prefix_len-map : {X Y : Type 0} (p : Y → Bool) (f : X → Y) (xs : List X) → prefix_len p (map f xs) ≡ prefix_len (λ x. p (f x)) xs
prefix_len-map p f [] = refl
prefix_len-map p f (x ∷ xs) = ap (λ n. cond (p (f x)) (1 + n) 0) (prefix_len-map p f xs)

-- the first place in a mapped list
pub position-map : {X Y : Type 0} (p : Y → Bool) (f : X → Y) (xs : List X) → position p (map f xs) ≡ position (λ x. p (f x)) xs
position-map p f xs =
    ap (λ n. cond (nat_lt n (length (map f xs))) (Some n) None) (prefix_len-map (λ y. not (p y)) f xs)
    ∙ ap (λ n. cond (nat_lt (prefix_len (λ x. not (p (f x))) xs) n) (Some (prefix_len (λ x. not (p (f x))) xs)) None) (length-map xs f)

-- how many elements of a mapped list pass
pub length-filter-map : {X Y : Type 0} (p : Y → Bool) (f : X → Y) (xs : List X) → length (filter p (map f xs)) ≡ length (filter (λ x. p (f x)) xs)
length-filter-map p f [] = refl
length-filter-map p f (x ∷ xs) =
    elim (p (f x)) as (λ b. length (cond b (f x ∷ filter p (map f xs)) (filter p (map f xs))) ≡ length (cond b (x ∷ filter (λ x. p (f x)) xs) (filter (λ x. p (f x)) xs))) [
      | true ↦ ap suc (length-filter-map p f xs)
      | false ↦ length-filter-map p f xs
    ]

-- by places
pub position_first : {X : Type 0} (p : X → Bool) (xs : List X) (i : ℕ) (d : X) → i < length xs → p (get_or xs i d) ≡ true → ((k : ℕ) → k < i → p (get_or xs k d) ≡ false) → position p xs ≡ Some i
position_first p xs i d within here before =
    let at : position_or_len p xs ≡ i = position_or_len_is p xs i d (omega arith) before (λ _. here) in
    grind (arith, at)

pub position_none : {X : Type 0} (p : X → Bool) (xs : List X) (d : X) → ((k : ℕ) → k < length xs → p (get_or xs k d) ≡ false) → position p xs ≡ None
position_none p xs d none =
    let at : position_or_len p xs ≡ length xs = position_or_len_is p xs (length xs) d (omega arith) none (λ h. absurd (omega arith)) in
    grind (arith, at)

pub none_passes : {X : Type 0} (p : X → Bool) (xs : List X) (d : X) → position p xs ≡ None → (k : ℕ) → k < length xs → p (get_or xs k d) ≡ false
none_passes p xs d e k within =
    let all : length xs ≤ position_or_len p xs = grind (arith, e) in
    not-true _ (prefix_len_passes (λ x. not (p x)) xs k d (omega arith))

-- whether a pair before place k has the name of the pair there
abbrev pub repeats : List Pair → ℕ → Bool
repeats pairs k = is_named (get_or pairs k ([], [])).0 (take k pairs)

abbrev repeats_at : List Pair → ℕ × Pair → Bool
repeats_at pairs e = is_named e.1.0 (take e.0 pairs)

repeats_numbered : (pairs : List Pair) (k : ℕ) → k < length pairs → repeats_at pairs (get_or (enumerate_from 0 pairs) k (0, ([], []))) ≡ repeats pairs k
repeats_numbered pairs k within =
    let item : get_or (enumerate_from 0 pairs) k (0, ([], [])) ≡ (k, get_or pairs k ([], [])) = get_or-enumerate_from 0 pairs k (0, ([], [])) within ∙ ap (λ n. (n, get_or pairs k ([], []))) (omega arith) in
    ap (repeats_at pairs) item

pub first_repeat : (pairs : List Pair) (i : ℕ) → i < length pairs → repeats pairs i ≡ true → ((k : ℕ) → k < i → repeats pairs k ≡ false) → first_repeated_name pairs ≡ Some i
first_repeat pairs i within here before =
    position_first (repeats_at pairs) (enumerate_from 0 pairs) i (0, ([], [])) (omega (arith, length-enumerate_from 0 pairs)) (repeats_numbered pairs i within ∙ here) (λ k h. repeats_numbered pairs k (omega arith) ∙ before k h)

pub no_repeat : (pairs : List Pair) → ((k : ℕ) → k < length pairs → repeats pairs k ≡ false) → first_repeated_name pairs ≡ None
no_repeat pairs none =
    let as_long = length-enumerate_from 0 pairs in
    position_none (repeats_at pairs) (enumerate_from 0 pairs) (0, ([], [])) (λ k h. let within : k < length pairs = omega arith in repeats_numbered pairs k within ∙ none k within)

pub none_repeats : (pairs : List Pair) → first_repeated_name pairs ≡ None → (k : ℕ) → k < length pairs → repeats pairs k ≡ false
none_repeats pairs e k within =
    let as_long = length-enumerate_from 0 pairs in
    sym (repeats_numbered pairs k within) ∙ none_passes (repeats_at pairs) (enumerate_from 0 pairs) (0, ([], [])) e k (omega arith)

-- the set of the names of the pairs so far, as its answers show it
abbrev pub HasSeen : BTreeSet (Bor (List ℕ)) → List Pair → Type 0
HasSeen seen pairs = (q : List ℕ) → contains_by (λ k. slice_cmp nat_cmp q k.now) seen ≡ is_named q pairs

name_at : (pairs : List (Bor (List ℕ) × Bor (List ℕ))) (i : ℕ) (d : Bor (List ℕ) × Bor (List ℕ)) → i < length pairs → get_or (texts pairs) i ([], []) ≡ ((get_or pairs i d).0.now, (get_or pairs i d).1.now)
name_at pairs i d within = get_or-map (λ p. (p.0.now, p.1.now)) pairs i d ([], []) within

not-not : (a b : Bool) → a ≡ not b → b ≡ not a
not-not a true e = sym (ap not e)
not-not a false e = sym (ap not e)

-- a name is new where no pair before has it
pub seen_here : (pairs : List (Bor (List ℕ) × Bor (List ℕ))) (i : ℕ) (d : Bor (List ℕ) × Bor (List ℕ)) (seen : BTreeSet (Bor (List ℕ))) (added : Bool) → i < length pairs → HasSeen seen (take i (texts pairs)) → added ≡ not (contains_by (λ k. slice_cmp nat_cmp (get_or pairs i d).0.now k.now) seen) → repeats (texts pairs) i ≡ not added
seen_here pairs i d seen added within so_far is =
    ap (λ p. is_named p.0 (take i (texts pairs))) (name_at pairs i d within)
    ∙ sym (so_far (get_or pairs i d).0.now)
    ∙ not-not _ _ is

or_is_cond : (a b : Bool) → (a || (b || false)) ≡ cond b true a
or_is_cond true true = refl
or_is_cond true false = refl
or_is_cond false true = refl
or_is_cond false false = refl

-- the set with one name more
pub seen_more : (pairs : List (Bor (List ℕ) × Bor (List ℕ))) (i : ℕ) (d : Bor (List ℕ) × Bor (List ℕ)) (old new : BTreeSet (Bor (List ℕ))) → i < length pairs → HasSeen old (take i (texts pairs))
    → ((b : Bor (List ℕ)) → contains_by (λ k. slice_cmp nat_cmp b.now k.now) new ≡ cond (is_eq (slice_cmp nat_cmp (get_or pairs i d).0.now b.now)) true (contains_by (λ k. slice_cmp nat_cmp b.now k.now) old))
    → HasSeen new (take (i + 1) (texts pairs))
seen_more pairs i d old new within so_far more q =
    let as_long : length (texts pairs) ≡ length pairs = length-map pairs _ in
    let longer : take (i + 1) (texts pairs) ≡ take i (texts pairs) ++ get_or (texts pairs) i ([], []) ∷ [] = take_more (texts pairs) i ([], []) (omega arith) in
    more (record { ref_ptr = (0, 0); now = q })
    ∙ ap (λ b. cond b true (contains_by (λ k. slice_cmp nat_cmp q k.now) old)) (is_eq-slice_cmp (get_or pairs i d).0.now q)
    ∙ ap (λ a. cond (bytes_eq (get_or pairs i d).0.now q) true a) (so_far q)
    ∙ sym (or_is_cond (is_named q (take i (texts pairs))) (bytes_eq (get_or pairs i d).0.now q))
    ∙ ap (λ p. is_named q (take i (texts pairs)) || (bytes_eq p.0 q || false)) (sym (name_at pairs i d within))
    ∙ sym (ap (is_named q) longer ∙ list_any-append (λ p. bytes_eq p.0 q) (take i (texts pairs)) (get_or (texts pairs) i ([], []) ∷ []))
