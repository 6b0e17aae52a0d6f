-- What is of snapshots is selected, and in their range.
use Rattle.std.proofs.Common.{◌≡◌, ℕ, Bool, true, false, cond, ◌&&◌, List, [], ◌∷◌, ◌++◌, map, filter, refl, ap, subst, sym, ◌∙◌, bytes_eq}
use Rattle.std.specs.Prelude.{All}
use Rattle.std.specs.List.{AllPass}
use Rattle.std.proofs.lemmas.List.Elements.{All-nil, All-cons, All-head, All-tail, All-map, All-weaker, All-contains}
use Rattle.std.proofs.lemmas.List.Sorted.{All-permutation, IsPermutation-sym}
use Rattle.std.proofs.lemmas.Slice.Eq.{bytes_eq-Decides}
use Rattle.ing_labels.specs.Selectors.{Match, selects}
use Rattle.ing_diary.specs.Found.{Found}
use Rattle.ing_diary.specs.Questions.{Question}
use Rattle.ing_diary.specs.Snapshot.{Snapshot}
use Rattle.ing_diary.specs.PartAnswers.{AreSomeOf}
use Rattle.ing_diary.specs.Parts.{HasRows, KeepsInRange, found_at, is_within, standing}
use Rattle.ing_diary.specs.Gathered.{IsOf}
use Rattle.ing_rows.specs.Rows.{Row, StreamKey}
use Rattle.ing_begun.specs.Picked.{Picks}
use Rattle.ing_node.specs.Queries.{AreSelected, IsAskedOf, key_named}

-- what holds of a list holds of its front
front_all : {X : Type 0} (P : X → Type 0) (xs ys : List X) → All P (xs ++ ys) → All P xs
front_all P [] ys all = All-nil P
front_all P (x ∷ xs) ys all = All-cons P x xs (All-head P x (xs ++ ys) all) (front_all P xs ys (All-tail P x (xs ++ ys) all))

-- and what holds of all holds of some of them
some_all : (P : Found → Type 0) (some all : List Found) → AreSomeOf some all → All P all → All P some
some_all P some all drawn holds =
    front_all P some drawn.others (All-permutation P all (some ++ drawn.others) (IsPermutation-sym (some ++ drawn.others) all drawn.same) holds)

-- what a filter keeps passes it
kept_one : {X : Type 0} (p : X → Bool) (x : X) (xs : List X) (b : Bool) → p x ≡ b → All (λ y. p y ≡ true) xs → All (λ y. p y ≡ true) (cond b (x ∷ xs) xs)
kept_one p x xs true is all = All-cons (λ y. p y ≡ true) x xs is all
kept_one p x xs false is all = all

kept_pass : {X : Type 0} (p : X → Bool) (xs : List X) → All (λ x. p x ≡ true) (filter p xs)
kept_pass p [] = All-nil (λ x. p x ≡ true)
kept_pass p (x ∷ xs) = kept_one p x (filter p xs) (p x) refl (kept_pass p xs)

-- a test of streams, for those of one tenant
of_tenant : List ℕ → (StreamKey → Bool) → StreamKey → Bool
of_tenant tenant picked s = bytes_eq s.tenant tenant && picked s

twice : (a b : Bool) → (a && (a && b)) ≡ (a && b)
twice true b = refl
twice false b = refl

picks_of_tenant : (tenant : List ℕ) (ms : List Match) (picked : StreamKey → Bool) → Picks tenant ms picked → Picks tenant ms (of_tenant tenant picked)
unfolding of_tenant
picks_of_tenant tenant ms picked picks t m is =
    ap (λ b. bytes_eq t tenant && b) (picks t m is) ∙ twice (bytes_eq t tenant) (selects ms m)

both_true : (a b : Bool) → (a && b) ≡ true → (a ≡ true) × (b ≡ true)
both_true true b is = (refl, is)
both_true false b is = absurd cc

-- such a stream is the one of the tenant that has its name
picked_named : (tenant : List ℕ) (picked : StreamKey → Bool) (s : StreamKey) → of_tenant tenant picked s ≡ true → picked (key_named tenant s.name) ≡ true
unfolding of_tenant
picked_named tenant picked s is =
    let both = both_true (bytes_eq s.tenant tenant) (picked s) is in
    let same : s.tenant ≡ tenant = (bytes_eq-Decides s.tenant tenant).0 both.0 in
    subst (λ t. picked (key_named t s.name) ≡ true) same both.1

-- what stands in a snapshot of the rows of picked streams is selected
pub standing_selected : {R : Type 0} (tenant : List ℕ) (ms : List Match) (rows : List Row) (s : Snapshot R)
    → ((picked : StreamKey → Bool) → Picks tenant ms picked → HasRows (filter (λ r. picked r.stream) rows) s)
    → AreSelected tenant ms (standing s)
standing_selected tenant ms rows s has picked picks =
    let P = λ (f : Found). picked (key_named tenant f.name) ≡ true in
    let q = λ (r : Row). of_tenant tenant picked r.stream in
    let drawn = (has (of_tenant tenant picked) (picks_of_tenant tenant ms picked picks)).drawn in
    some_all P (standing s) (map found_at (filter q rows)) drawn
    (All-map P found_at (filter q rows)
    (All-weaker (λ (r : Row). q r ≡ true) (λ (r : Row). P (found_at r)) (λ r is. picked_named tenant picked r.stream is) (filter q rows) (kept_pass q rows)))

-- what is of snapshots for a question is selected, and in its range
pub found_selected : {R : Type 0} (tenant : List ℕ) (ms : List Match) (q : Question) (ss : List (Snapshot R)) (found : List Found)
    → All (IsAskedOf tenant ms q) ss → All (IsOf ss) found → AreSelected tenant ms found
found_selected tenant ms q ss found asked of picked picks =
    All-weaker (IsOf ss) (λ (f : Found). picked (key_named tenant f.name) ≡ true)
    (λ f is.
    let there = All-contains (IsAskedOf tenant ms q) ss is.snapshot asked is.there in
    let at = All-contains (λ (g : Found). picked (key_named tenant g.name) ≡ true) (standing is.snapshot) is.entry (there.selected picked picks) is.stands in
    subst (λ name. picked (key_named tenant name) ≡ true) is.name at)
    found of

pub found_within : {R : Type 0} (tenant : List ℕ) (ms : List Match) (q : Question) (ss : List (Snapshot R)) (found : List Found)
    → All (IsAskedOf tenant ms q) ss → All (IsOf ss) found → AllPass (is_within q) found
found_within tenant ms q ss found asked of =
    All-weaker (IsOf ss) (λ (f : Found). is_within q f ≡ true)
    (λ f is.
    let there = All-contains (IsAskedOf tenant ms q) ss is.snapshot asked is.there in
    sym (there.range f) ∙ is.in_range)
    found of

pub all_kept : {R : Type 0} (tenant : List ℕ) (ms : List Match) (q : Question) (ss : List (Snapshot R)) → All (IsAskedOf tenant ms q) ss → All KeepsInRange ss
all_kept {R = R} tenant ms q ss asked = All-weaker (IsAskedOf tenant ms q) (λ (s : Snapshot R). KeepsInRange s) (λ s is. is.kept) ss asked
