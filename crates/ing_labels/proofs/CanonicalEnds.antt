-- Where the reading of a canonical name ends.
use Rattle.std.proofs.Common.{◌≡◌, ℕ, ◌+◌, ◌<◌, length, take, List, [], ◌∷◌, ◌++◌, Some, None, refl, sym, ap, subst, ◌∙◌, append_assoc, append-nil, arith, length-append}
use Rattle.std.proofs.Math.Seq.{take-append_seam, take-append-add}
use Rattle.std.proofs.lemmas.List.{nil_from_length}
use lib.Utf8.{encode}
use Rattle.ing_labels.specs.Labels.{Pair}
use Rattle.ing_labels.specs.CanonicalTexts.{BeginsCanonical, IsNotCanonical, IsRead}
use Rattle.ing_labels.specs.CanonicalReading.{Reading, Start, Next, InName, Compared, InValue, Escaped, Matched, Comma, Closed, step_char, run_from, closed_of}
use Rattle.ing_labels.proofs.CanonicalWhole.{run-append, labels_of_text, begins, ends, refused_end}
use Rattle.ing_labels.proofs.CanonicalChars.{char_read, char_stuck}

-- the first `at` bytes of the text are read, and `rest` is left
pub record ReadTo (text rest : List ℕ) (at : ℕ) (r : Reading) : Type 0 where
  pub front : List ℕ
  pub spells : front ++ rest ≡ text
  pub place : length front ≡ at
  pub read : run_from (Some Start) front ≡ Some r

pub none_read : (text rest : List ℕ) → rest ≡ text → ReadTo text rest 0 Start
none_read text rest e = record { front = []; spells = e; place = refl; read = refl }

pub one_more : (text old rest : List ℕ) (at next c : ℕ) (r t : Reading) → old ≡ encode c ++ rest → next ≡ at + length (encode c) → step_char r c ≡ Some t → ReadTo text old at r → ReadTo text rest next t
one_more text old rest at next c r t item place e h = record {
  front = h.front ++ encode c;
  spells = append_assoc h.front (encode c) rest ∙ ap (λ x. h.front ++ x) (sym item) ∙ h.spells;
  place = length-append h.front (encode c) ∙ ap (λ n. n + length (encode c)) h.place ∙ sym place;
  read = run-append (Some Start) h.front (encode c) ∙ ap (λ o. run_from o (encode c)) h.read ∙ char_read r t c e;
}

pub within_text : (text rest : List ℕ) (at : ℕ) (r : Reading) → ReadTo text rest at r → at + length rest ≡ length text
within_text text rest at r h = ap (λ n. n + length rest) (sym h.place) ∙ sym (length-append h.front rest) ∙ ap length h.spells

take_front : (text rest : List ℕ) (at : ℕ) (r : Reading) → (h : ReadTo text rest at r) → take at text ≡ h.front
take_front text rest at r h = ap (λ n. take n text) (sym h.place) ∙ ap (take (length h.front)) (sym h.spells) ∙ take-append_seam h.front rest

take_one_more : (text front rest : List ℕ) (at b : ℕ) → front ++ (b ∷ rest) ≡ text → length front ≡ at → take (at + 1) text ≡ front ++ b ∷ []
take_one_more text front rest at b spells place =
    ap (λ n. take (n + 1) text) (sym place) ∙ ap (take (length front + 1)) (sym spells) ∙ take-append-add front (b ∷ rest) 1

can_begin : (text rest : List ℕ) (at : ℕ) (r : Reading) → ReadTo text rest at r → BeginsCanonical (take at text)
can_begin text rest at r h = subst BeginsCanonical (sym (take_front text rest at r h)) (begins h.front r h.read)

-- a character that cannot follow
pub bad_here : (text old rest : List ℕ) (at c : ℕ) (r : Reading) → old ≡ encode c ++ rest → 0 < length (encode c) → step_char r c ≡ None → ReadTo text old at r → IsNotCanonical text at
bad_here text old rest at c r item some e h =
    let found = char_stuck r c some e in
    let b = found.0 in
    let whole : h.front ++ (b ∷ (found.1 ++ rest)) ≡ text = ap (λ x. h.front ++ (x ++ rest)) (sym found.2) ∙ ap (λ x. h.front ++ x) (sym item) ∙ h.spells in
    let longer : take (at + 1) text ≡ h.front ++ b ∷ [] = take_one_more text h.front (found.1 ++ rest) at b whole h.place in
    let stuck = ends h.front b r h.read found.3 in
    let inside = within_text text old at r h in
    record {
      refused = λ m set is. stuck (m, found.1 ++ rest, set, append_assoc h.front (b ∷ []) (found.1 ++ rest) ∙ whole ∙ is);
      within = omega arith;
      begins = can_begin text old at r h;
      longest = λ _ some. stuck (subst BeginsCanonical longer some);
    }

-- the text ends too early
pub bad_end : (text rest : List ℕ) (at : ℕ) (r : Reading) → length rest ≡ 0 → closed_of r ≡ None → ReadTo text rest at r → IsNotCanonical text at
bad_end text rest at r none unfinished h =
    let inside : at + length rest ≡ length text = within_text text rest at r h in
    let whole : h.front ≡ text = sym (append-nil h.front) ∙ ap (λ x. h.front ++ x) (sym (nil_from_length rest none)) ∙ h.spells in
    record {
      refused = λ m set is. refused_end h.front r h.read unfinished m set (whole ∙ is);
      within = omega arith;
      begins = can_begin text rest at r h;
      longest = λ shorter _. absurd (omega arith);
    }

is_closed : (r : Reading) (ps : List Pair) → closed_of r ≡ Some ps → r ≡ Closed ps
is_closed Start ps e = absurd (cc)
is_closed (Next _) ps e = absurd (cc)
is_closed (InName _ _ _) ps e = absurd (cc)
is_closed (Compared _ _) ps e = absurd (cc)
is_closed (InValue _ _ _) ps e = absurd (cc)
is_closed (Escaped _ _ _) ps e = absurd (cc)
is_closed (Matched _) ps e = absurd (cc)
is_closed (Comma _) ps e = absurd (cc)
is_closed (Closed _) ps e = cc

-- the text is read whole
pub good_end : (text rest : List ℕ) (at : ℕ) (ps : List Pair) (r : Reading) → length rest ≡ 0 → closed_of r ≡ Some ps → ReadTo text rest at r → IsRead text ps
good_end text rest at ps r none done h =
    let whole : h.front ≡ text = sym (append-nil h.front) ∙ ap (λ x. h.front ++ x) (sym (nil_from_length rest none)) ∙ h.spells in
    let found = labels_of_text h.front ps (h.read ∙ ap Some (is_closed r ps done)) in
    record { labels = record { in_order = found.0; labels = found.1 }; spelt = sym whole ∙ found.2 }
