-- Streams are the same where their texts are, and how rows of a list are picked and changed.
use Rattle.std.proofs.Common.{◌≡◌, ℕ, ◌+◌, Bool, true, false, cond, ◌&&◌, ◌||◌, List, [], ◌∷◌, length, map, filter, refl, sym, ap, ◌∙◌, arith, bytes_eq}
use Rattle.std.proofs.lemmas.List.{length-map}
use Rattle.std.proofs.lemmas.Slice.Eq.{bytes_eq-Decides}
use Rattle.ing_rows.specs.declared.place.Place.{Place}
use Rattle.ing_rows.specs.Rows.{StreamKey, Row, same_stream, count_of, has_stream}
use Rattle.ing_rows.specs.Steps.{moved}

-- ---- streams

and_true : (a b : Bool) → (a && b) ≡ true → (a ≡ true) × (b ≡ true)
and_true true b h = (refl, h)
and_true false b h = (h, absurd (cc))

pub bytes_self : (a : List ℕ) → bytes_eq a a ≡ true
bytes_self a = (bytes_eq-Decides a a).1 refl

pub stream_same : (a b : StreamKey) → same_stream a b ≡ true → a ≡ b
stream_same a b h =
    let both = and_true (bytes_eq a.tenant b.tenant) (bytes_eq a.name b.name) h in
    let tenants = (bytes_eq-Decides a.tenant b.tenant).0 both.0 in
    let names = (bytes_eq-Decides a.name b.name).0 both.1 in
    λ i. record { tenant = tenants i; name = names i }

pub has_more : (a s : StreamKey) (S : List StreamKey) → has_stream s (cond (has_stream a S) S (a ∷ S)) ≡ (same_stream a s || has_stream s S)
has_more a s S = by_cases (has_stream a S) refl (same_stream a s) refl where
  by_cases : (h : Bool) → has_stream a S ≡ h → (b : Bool) → same_stream a s ≡ b → has_stream s (cond h S (a ∷ S)) ≡ (b || has_stream s S)
  by_cases true known true same = ap (λ x. has_stream x S) (sym (stream_same a s same)) ∙ known
  by_cases true known false same = refl
  by_cases false known b same = ap (λ x. x || has_stream s S) same

pub length_more : (b : Bool) (a : StreamKey) (S : List StreamKey) → length (cond b S (a ∷ S)) ≡ length S + cond b 0 1
length_more true a S = omega arith
length_more false a S = omega arith

-- ---- elements that pass a test

module _ {X : Type 0} where
  pub count_cond : (b : Bool) (x : X) (xs : List X) → length (cond b (x ∷ xs) xs) ≡ cond b 1 0 + length xs
  count_cond true x xs = omega arith
  count_cond false x xs = omega arith

  both_cond : (p : X → Bool) (b : Bool) (x : X) (kept all : List X) → filter p kept ≡ all
      → filter p (cond b (x ∷ kept) kept) ≡ cond (b && p x) (x ∷ all) all
  both_cond p true x kept all h = ap (λ l. cond (p x) (x ∷ l) l) h
  both_cond p false x kept all h = h

  pub filter_both : (p q : X → Bool) (xs : List X) → filter p (filter q xs) ≡ filter (λ x. q x && p x) xs
  filter_both p q [] = refl
  filter_both p q (x ∷ xs) = both_cond p (q x) x (filter q xs) (filter (λ y. q y && p y) xs) (filter_both p q xs)

  kept_cond : (b : Bool) (f : X → X) (x : X) (xs ys : List X) → xs ≡ map f ys → cond b (f x ∷ xs) xs ≡ map f (cond b (x ∷ ys) ys)
  kept_cond true f x xs ys h = ap (λ l. f x ∷ l) h
  kept_cond false f x xs ys h = h

  pub filter_mapped : (p : X → Bool) (f : X → X) → ((x : X) → p (f x) ≡ p x) → (xs : List X) → filter p (map f xs) ≡ map f (filter p xs)
  filter_mapped p f stays [] = refl
  filter_mapped p f stays (x ∷ xs) =
      ap (λ b. cond b (f x ∷ filter p (map f xs)) (filter p (map f xs))) (stays x)
      ∙ kept_cond (p x) f x (filter p (map f xs)) (filter p xs) (filter_mapped p f stays xs)

-- moved rows keep their streams
module _ (test : Row → Bool) (place : Place) where
  abbrev put : Row → Row
  put r = cond (test r) (record r { place = place }) r

  stays : (s : StreamKey) (r : Row) → same_stream (put r).stream s ≡ same_stream r.stream s
  stays s r = by_cases (test r) where
    by_cases : (b : Bool) → same_stream (cond b (record r { place = place }) r).stream s ≡ same_stream r.stream s
    by_cases true = refl
    by_cases false = refl

  pub moved_count : (rows : List Row) (s : StreamKey) → count_of (moved test place rows) s ≡ count_of rows s
  moved_count rows s =
      ap length (filter_mapped (λ (r : Row). same_stream r.stream s) put (stays s) rows)
      ∙ length-map (filter (λ (r : Row). same_stream r.stream s) rows) put
