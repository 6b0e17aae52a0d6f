-- Entries among which no other stands before a number.
use Rattle.std.proofs.Common.{◌≡◌, ℕ, ◌+◌, arith, Bool, true, false, not, ◌&&◌, ◌||◌, nat_eq, List, [], ◌∷◌, bytes_eq, ap, refl, ◌∙◌, subst}
use Rattle.std.specs.Prelude.{All}
use Rattle.std.specs.List.{list_any}
use Rattle.std.proofs.lemmas.Bool.{eqb-true}
use Rattle.std.proofs.lemmas.Bool.Decides.{nat_tests}
use Rattle.std.proofs.lemmas.List.Elements.{All-cons, All-head, All-nil, All-tail}
use Rattle.std.proofs.lemmas.Slice.Eq.{bytes_eq-Decides}
use Rattle.ing_rows.specs.declared.entry.Entry.{Entry}
use Rattle.ing_rows.specs.Verdicts.{is_same}
use Rattle.ing_chunk.specs.declared.numbered.Numbered.{Numbered}
use Rattle.ing_relist.specs.Ends.{is_other}

itself : (n : ℕ) → nat_eq n n ≡ true
itself n = grind (arith, nat_tests)

pub both : (a b : Bool) → (a && b) ≡ true → (a ≡ true) × (b ≡ true)
both true true h = (refl, refl)
both true false h = absurd (cc)
both false b h = absurd (cc)

pub same_entry : (a b : Entry) → is_same a b ≡ true → a ≡ b
same_entry a b h =
    let p = both (nat_eq a.stamp b.stamp) (bytes_eq a.line b.line) h in
    λ i. record { stamp = eqb-true a.stamp b.stamp p.0 i; line = (bytes_eq-Decides a.line b.line).0 p.1 i }

same_as : (a b : Entry) → a ≡ b → is_same a b ≡ true
same_as a b is = subst (λ c. is_same a c ≡ true) is (ap (λ t. t && bytes_eq a.line a.line) (itself a.stamp) ∙ (bytes_eq-Decides a.line a.line).1 refl)

abbrev Ends : ℕ → Entry → Numbered → Type 0
Ends end e n = n.number + 1 ≡ end → n.entry ≡ e

none : (end : ℕ) (e : Entry) (n : Numbered) → is_other end e n ≡ false → Ends end e n
none end e n h last = by_cases (is_same n.entry e) refl where
  by_cases : (b : Bool) → is_same n.entry e ≡ b → n.entry ≡ e
  by_cases true is = same_entry n.entry e is
  by_cases false is = absurd (let there : nat_eq (n.number + 1) end ≡ true = subst (λ m. nat_eq (n.number + 1) m ≡ true) last (itself (n.number + 1)) in cc)

other : (end : ℕ) (e : Entry) (n : Numbered) → is_other end e n ≡ true → Ends end e n → ⊥
other end e n h ends =
    let p = both (nat_eq (n.number + 1) end) (not (is_same n.entry e)) h in
    let same = same_as n.entry e (ends (eqb-true (n.number + 1) end p.0)) in
    let apart = p.1 in
    cc

pub none_other : (end : ℕ) (e : Entry) (es : List Numbered) → list_any (is_other end e) es ≡ false → All (Ends end e) es
none_other end e [] h = All-nil (Ends end e)
none_other end e (n ∷ es) h = step (is_other end e n) refl h (none_other end e es) where
  step : (b : Bool) → is_other end e n ≡ b → (b || list_any (is_other end e) es) ≡ false → (list_any (is_other end e) es ≡ false → All (Ends end e) es) → All (Ends end e) (n ∷ es)
  step true is h rest = absurd (cc)
  step false is h rest = All-cons (Ends end e) n es (none end e n is) (rest h)

pub some_other : (end : ℕ) (e : Entry) (es : List Numbered) → list_any (is_other end e) es ≡ true → All (Ends end e) es → ⊥
some_other end e [] h all = cc
some_other end e (n ∷ es) h all = step (is_other end e n) refl h (some_other end e es) where
  step : (b : Bool) → is_other end e n ≡ b → (b || list_any (is_other end e) es) ≡ true → (list_any (is_other end e) es ≡ true → All (Ends end e) es → ⊥) → ⊥
  step true is h rest = other end e n is (All-head (Ends end e) n es all)
  step false is h rest = rest h (All-tail (Ends end e) n es all)
