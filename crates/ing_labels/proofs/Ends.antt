-- Where the reading of a selector text ends.
use Rattle.std.proofs.Common.{◌≡◌, ℕ, ◌+◌, ◌<◌, length, take, List, [], ◌∷◌, ◌++◌, Some, None, refl, sym, ap, subst, ◌∙◌, append_assoc, append-nil, arith, length-append}
use Rattle.std.proofs.Math.Seq.{take-append_seam, take-append-add}
use Rattle.std.proofs.lemmas.List.{nil_from_length}
use lib.Utf8.{encode}
use Rattle.ing_labels.specs.Selectors.{Match, IsSelectorText, BeginsSelector, IsBadSelector}
use Rattle.ing_labels.specs.Reading.{Reading, Start, Opened, InName, Named, Bang, Compared, InValue, Escaped, Matched, Comma, Closed, step_char, run_from, closed_of}
use Rattle.ing_labels.proofs.Complete.{run-append, reads, begins, ends, refused_end}
use Rattle.ing_labels.proofs.Chars.{char_read, char_stuck}

-- the first `at` bytes of the text are read, and `rest` is left
pub record ReadTo (text rest : List ℕ) (at : ℕ) (r : Reading) : Type 0 where
  pub front : List ℕ
  pub spells : front ++ rest ≡ text
  pub place : length front ≡ at
  pub read : run_from (Some Start) front ≡ Some r

pub none_read : (text rest : List ℕ) → rest ≡ text → ReadTo text rest 0 Start
none_read text rest e = record { front = []; spells = e; place = refl; read = refl }

pub one_more : (text old rest : List ℕ) (at next c : ℕ) (r t : Reading) → old ≡ encode c ++ rest → next ≡ at + length (encode c) → step_char r c ≡ Some t → ReadTo text old at r → ReadTo text rest next t
one_more text old rest at next c r t item place e h = record {
  front = h.front ++ encode c;
  spells = append_assoc h.front (encode c) rest ∙ ap (λ x. h.front ++ x) (sym item) ∙ h.spells;
  place = length-append h.front (encode c) ∙ ap (λ n. n + length (encode c)) h.place ∙ sym place;
  read = run-append (Some Start) h.front (encode c) ∙ ap (λ o. run_from o (encode c)) h.read ∙ char_read r t c e;
}

pub within_text : (text rest : List ℕ) (at : ℕ) (r : Reading) → ReadTo text rest at r → at + length rest ≡ length text
within_text text rest at r h = ap (λ n. n + length rest) (sym h.place) ∙ sym (length-append h.front rest) ∙ ap length h.spells

take_front : (text rest : List ℕ) (at : ℕ) (r : Reading) → (h : ReadTo text rest at r) → take at text ≡ h.front
take_front text rest at r h = ap (λ n. take n text) (sym h.place) ∙ ap (take (length h.front)) (sym h.spells) ∙ take-append_seam h.front rest

take_one_more : (text front rest : List ℕ) (at b : ℕ) → front ++ (b ∷ rest) ≡ text → length front ≡ at → take (at + 1) text ≡ front ++ b ∷ []
take_one_more text front rest at b spells place =
    ap (λ n. take (n + 1) text) (sym place) ∙ ap (take (length front + 1)) (sym spells) ∙ take-append-add front (b ∷ rest) 1

can_begin : (text rest : List ℕ) (at : ℕ) (r : Reading) → ReadTo text rest at r → BeginsSelector (take at text)
can_begin text rest at r h = subst BeginsSelector (sym (take_front text rest at r h)) (begins h.front r h.read)

-- a character that cannot follow
pub bad_here : (text old rest : List ℕ) (at c : ℕ) (r : Reading) → old ≡ encode c ++ rest → 0 < length (encode c) → step_char r c ≡ None → ReadTo text old at r → IsBadSelector text at
bad_here text old rest at c r item some e h =
    let found = char_stuck r c some e in
    let b = found.0 in
    let whole : h.front ++ (b ∷ (found.1 ++ rest)) ≡ text = ap (λ x. h.front ++ (x ++ rest)) (sym found.2) ∙ ap (λ x. h.front ++ x) (sym item) ∙ h.spells in
    let longer : take (at + 1) text ≡ h.front ++ b ∷ [] = take_one_more text h.front (found.1 ++ rest) at b whole h.place in
    let stuck = ends h.front b r h.read found.3 in
    let inside = within_text text old at r h in
    record {
      refused = λ ms is. stuck (ms, found.1 ++ rest, subst (IsSelectorText ms) (sym whole ∙ sym (append_assoc h.front (b ∷ []) (found.1 ++ rest))) is);
      within = omega arith;
      begins = can_begin text old at r h;
      longest = λ _ some. stuck (subst BeginsSelector longer some);
    }

-- the text ends too early
pub bad_end : (text rest : List ℕ) (at : ℕ) (r : Reading) → length rest ≡ 0 → closed_of r ≡ None → ReadTo text rest at r → IsBadSelector text at
bad_end text rest at r none unfinished h =
    let inside : at + length rest ≡ length text = within_text text rest at r h in
    let whole : h.front ≡ text = sym (append-nil h.front) ∙ ap (λ x. h.front ++ x) (sym (nil_from_length rest none)) ∙ h.spells in
    record {
      refused = λ ms is. refused_end h.front r h.read unfinished ms (subst (IsSelectorText ms) (sym whole) is);
      within = omega arith;
      begins = can_begin text rest at r h;
      longest = λ shorter _. absurd (omega arith);
    }

is_closed : (r : Reading) (ms : List Match) → closed_of r ≡ Some ms → r ≡ Closed ms
is_closed Start ms e = absurd (cc)
is_closed Opened ms e = absurd (cc)
is_closed (InName _ _) ms e = absurd (cc)
is_closed (Named _ _) ms e = absurd (cc)
is_closed (Bang _ _) ms e = absurd (cc)
is_closed (Compared _ _ _) ms e = absurd (cc)
is_closed (InValue _ _ _ _) ms e = absurd (cc)
is_closed (Escaped _ _ _ _) ms e = absurd (cc)
is_closed (Matched _) ms e = absurd (cc)
is_closed (Comma _) ms e = absurd (cc)
is_closed (Closed _) ms e = cc

-- the text is read whole
pub good_end : (text rest : List ℕ) (at : ℕ) (ms : List Match) (r : Reading) → length rest ≡ 0 → closed_of r ≡ Some ms → ReadTo text rest at r → IsSelectorText ms text
good_end text rest at ms r none done h =
    let whole : h.front ≡ text = sym (append-nil h.front) ∙ ap (λ x. h.front ++ x) (sym (nil_from_length rest none)) ∙ h.spells in
    let read = h.read in
    subst (IsSelectorText ms) whole (reads h.front (Closed ms) (read ∙ ap Some (is_closed r ms done)))
