-- Tests of all entries, filters, and the last entry.
use Rattle.std.proofs.Common.{◌≡◌, Bool, true, false, cond, List, [], ◌∷◌, ◌++◌, length, Some, refl, sym, ap, ◌∙◌, ◌&&◌}
use Rattle.std.specs.Prelude.{slice_get}
use Rattle.std.specs.List.{filter, list_all}
use Rattle.ctl_pages.specs.Pages.{Placed}

-- ---- the last entry

abbrev pub last_by : Placed → List Placed → Placed
last_by placed [] = placed
last_by placed (next ∷ rest) = last_by next rest

pub last_at : (placed : Placed) (rest : List Placed) → slice_get (placed ∷ rest) (length rest) ≡ Some (last_by placed rest)
last_at placed [] = refl
last_at placed (next ∷ rest) = last_at next rest

-- ---- tests of all entries

pub both : (a b : Bool) → (a && b) ≡ true → (a ≡ true) × (b ≡ true)
both true b h = (refl, h)
both false b h = (h, cc)

pub all_of_both : (p : Placed → Bool) (xs ys : List Placed) → list_all p (xs ++ ys) ≡ true → (list_all p xs ≡ true) × (list_all p ys ≡ true)
all_of_both p [] ys h = (refl, h)
all_of_both p (x ∷ xs) ys h =
    let parts : (p x ≡ true) × (list_all p (xs ++ ys) ≡ true) = both (p x) (list_all p (xs ++ ys)) h in
    let rest : (list_all p xs ≡ true) × (list_all p ys ≡ true) = all_of_both p xs ys parts.1 in
    (ap (λ b. b && list_all p xs) parts.0 ∙ rest.0, rest.1)

pub of_last : (p : Placed → Bool) (x : Placed) (xs : List Placed) → list_all p (x ∷ xs) ≡ true → p (last_by x xs) ≡ true
of_last p x [] h = (both (p x) true h).0
of_last p x (y ∷ ys) h = of_last p y ys (both (p x) (list_all p (y ∷ ys)) h).1

-- ---- filters

filter_at : (p q : Placed → Bool) (b : Bool) (x : Placed) (rest : List Placed) → list_all q rest ≡ true → (b ≡ true → q x ≡ true) → list_all q (cond b (x ∷ rest) rest) ≡ true
filter_at p q true x rest h passes = ap (λ b. b && list_all q rest) (passes refl) ∙ h
filter_at p q false x rest h passes = h

-- what is kept passes
pub filter_passes : (p : Placed → Bool) (xs : List Placed) → list_all p (filter p xs) ≡ true
filter_passes p [] = refl
filter_passes p (x ∷ xs) = filter_at p p (p x) x (filter p xs) (filter_passes p xs) (λ passes. passes)

-- what all have those have that are kept
pub filter_keeps : (q p : Placed → Bool) (xs : List Placed) → list_all q xs ≡ true → list_all q (filter p xs) ≡ true
filter_keeps q p [] h = refl
filter_keeps q p (x ∷ xs) h =
    let parts : (q x ≡ true) × (list_all q xs ≡ true) = both (q x) (list_all q xs) h in
    filter_at p q (p x) x (filter p xs) (filter_keeps q p xs parts.1) (λ passes. parts.0)

keep_at : (p : Placed → Bool) (b : Bool) (x : Placed) (xs : List Placed) → b ≡ true → filter p xs ≡ xs → cond b (x ∷ filter p xs) (filter p xs) ≡ x ∷ xs
keep_at p true x xs h e = ap (λ ys. x ∷ ys) e
keep_at p false x xs h e = cc

-- all that pass are kept
pub filter_all : (p : Placed → Bool) (xs : List Placed) → list_all p xs ≡ true → filter p xs ≡ xs
filter_all p [] h = refl
filter_all p (x ∷ xs) h =
    let parts : (p x ≡ true) × (list_all p xs ≡ true) = both (p x) (list_all p xs) h in
    keep_at p (p x) x xs parts.0 (filter_all p xs parts.1)

-- one that does not pass is left out
pub filter_first : (p : Placed → Bool) (x : Placed) (xs ys : List Placed) → p x ≡ false → filter p xs ≡ ys → filter p (x ∷ xs) ≡ ys
filter_first p x xs ys fails rest = ap (λ b. cond b (x ∷ filter p xs) (filter p xs)) fails ∙ rest

twice_at : (q : Placed → Bool) (b c : Bool) (x : Placed) (rs ps : List Placed) → q x ≡ c → rs ≡ filter q ps → cond (b && c) (x ∷ rs) rs ≡ filter q (cond b (x ∷ ps) ps)
twice_at q true true x rs ps passes e = ap (λ ys. x ∷ ys) e ∙ sym (ap (λ t. cond t (x ∷ filter q ps) (filter q ps)) passes)
twice_at q true false x rs ps passes e = e ∙ sym (ap (λ t. cond t (x ∷ filter q ps) (filter q ps)) passes)
twice_at q false c x rs ps passes e = e

-- one filter behind another
pub filter_twice : (p q r : Placed → Bool) → ((x : Placed) → r x ≡ (p x && q x)) → (xs : List Placed) → filter r xs ≡ filter q (filter p xs)
filter_twice p q r same [] = refl
filter_twice p q r same (x ∷ xs) =
    ap (λ b. cond b (x ∷ filter r xs) (filter r xs)) (same x)
    ∙ twice_at q (p x) (q x) x (filter r xs) (filter p xs) refl (filter_twice p q r same xs)
