-- What the parts of a line make of the lines of an input.
use Rattle.std.proofs.Common.{◌≡◌, ℕ, ◌+◌, ◌-◌, ◌<◌, ◌≤◌, Bool, true, false, cond, eqb, List, [], ◌∷◌, ◌++◌, length, take, drop, slice_range, Option, Some, None, refl, sym, ap, subst, ◌∙◌, append_assoc, drop-drop, arith, ◌≢◌, inl, inr}
use Rattle.std.proofs.lemmas.List.{drop-take, append-nil}
use Rattle.std.proofs.lemmas.Bool.{ne_eqb}
use Rattle.std.proofs.lemmas.Bool.Decides.{eqb_tells}
use Rattle.std.proofs.Math.Dec.{eqb-suc-zero}
use Rattle.std.specs.List.{AllByRecursion, flat_map}
use Rattle.std.proofs.lemmas.List.Concat.{flat_map-cons}
use Rattle.std.specs.Io.KnownBytes.{prepend_known, Keeps, Consumes, IsAtEnd}
use Rattle.ing_session.specs.declared.lines.NextLine.{NextLine}
use Rattle.ing_session.specs.declared.lines.NextLine.TheVariants.{Line, TooLong, End}
use Rattle.ing_session.specs.declared.lines.Part.TheVariants.{Ended, Open}
use Rattle.ing_session.specs.Lines.{lines_of, with_feed, TakesLine}
use Rattle.ing_session.specs.Parts.{HasNoFeed, Holds, TakesPart}

-- a range that starts later is the rest of the range
pub slice_range-later : (xs : List ℕ) (a e n : ℕ) → n ≤ e - a → slice_range xs (a + n) e ≡ drop n (slice_range xs a e)
slice_range-later xs a e n h =
    let whole : n + (e - (a + n)) ≡ e - a = omega arith in
    ap (take (e - (a + n))) (sym (drop-drop n a xs))
    ∙ sym (drop-take n (e - (a + n)) (drop a xs))
    ∙ ap (λ k. drop n (take k (drop a xs))) whole

-- ---- lines

pub HasNoFeed-append : (xs ys : List ℕ) → HasNoFeed xs → HasNoFeed ys → HasNoFeed (xs ++ ys)
HasNoFeed-append [] ys h k = k
HasNoFeed-append (x ∷ xs) ys h k = (h.0, HasNoFeed-append xs ys h.1 k)

feed_stands : (front rest : List ℕ) → HasNoFeed (front ++ 10 ∷ rest) → ⊥
feed_stands [] rest h = h.0 refl
feed_stands (x ∷ xs) rest h = feed_stands xs rest h.1

-- bytes with a line feed among them have one
pub has_feed : (bytes front rest : List ℕ) → bytes ≡ front ++ 10 ∷ rest → HasNoFeed bytes → ⊥
has_feed bytes front rest e h = feed_stands front rest (subst HasNoFeed e h)

-- a line feed ends the first line
pub lines_of-feed : (front rest : List ℕ) → HasNoFeed front → lines_of (front ++ 10 ∷ rest) ≡ front ∷ lines_of rest
lines_of-feed [] rest h = refl
lines_of-feed (x ∷ xs) rest h = rw (ne_eqb x 10 h.0, lines_of-feed xs rest h.1) refl

-- bytes with no line feed are one line
pub lines_of-open : (x : ℕ) (xs : List ℕ) → HasNoFeed (x ∷ xs) → lines_of (x ∷ xs) ≡ (x ∷ xs) ∷ []
lines_of-open x [] h = rw (ne_eqb x 10 h.0) refl
lines_of-open x (y ∷ ys) h = rw (ne_eqb x 10 h.0) (rw (lines_of-open y ys h.1) refl)

-- ---- known bytes

-- what was taken of a line since old bytes were left
pub record SoFar (old new : Option (List ℕ)) (line : List ℕ) (long : Bool) : Type 0 where
  pub taken : List ℕ
  pub consumed : Consumes old new taken
  pub no_feed : HasNoFeed taken
  pub holds : Holds long line taken

consumes_more : (old : Option (List ℕ)) (known : Option (List ℕ)) (taken front rest ahead : List ℕ) → ahead ≡ front ++ rest → Consumes old (prepend_known ahead known) taken → Consumes old (prepend_known rest known) (taken ++ front)
consumes_more None known taken front rest ahead e h = tt
consumes_more (Some xs) None taken front rest ahead e h = h
consumes_more (Some xs) (Some ys) taken front rest ahead e h = h ∙ ap (λ (zs : List ℕ). taken ++ (zs ++ ys)) e ∙ simp append_assoc

consumes_kept : (old new kept : Option (List ℕ)) (taken : List ℕ) → Consumes old new taken → Keeps new kept → Consumes old kept taken
consumes_kept None new kept taken h k = tt
consumes_kept (Some xs) None kept taken h k = absurd h
consumes_kept (Some xs) (Some ys) None taken h k = absurd k
consumes_kept (Some xs) (Some ys) (Some zs) taken h k = h ∙ ap (λ (ws : List ℕ). taken ++ ws) (sym k)

-- bytes with no line feed, read since old
pub record Passed (old new : Option (List ℕ)) : Type 0 where
  pub bytes : List ℕ
  pub no_feed : HasNoFeed bytes
  pub consumed : Consumes old new bytes

pub passed_none : (known : Option (List ℕ)) (ahead : List ℕ) → ahead ≡ [] → Passed known (prepend_known ahead known)
passed_none None ahead empty = record { bytes = []; no_feed = tt; consumed = tt }
passed_none (Some xs) ahead empty = record { bytes = []; no_feed = tt; consumed = rw empty refl }

pub passed_more : (old new known : Option (List ℕ)) (ahead rest : List ℕ) → Passed old new → Keeps new (prepend_known ahead known) → HasNoFeed ahead → rest ≡ [] → Passed old (prepend_known rest known)
passed_more old new known ahead rest so_far k clean empty =
    let before = consumes_kept old new (prepend_known ahead known) so_far.bytes so_far.consumed k in
    record {
      bytes = so_far.bytes ++ ahead;
      no_feed = HasNoFeed-append so_far.bytes ahead so_far.no_feed clean;
      consumed = consumes_more old known so_far.bytes ahead rest ahead (rw empty (sym (append-nil ahead))) before;
    }

pub passed_kept : (old new kept : Option (List ℕ)) → Passed old new → Keeps new kept → Passed old kept
passed_kept old new kept so_far k = record { bytes = so_far.bytes; no_feed = so_far.no_feed; consumed = consumes_kept old new kept so_far.bytes so_far.consumed k }

pub passed_known : (old known : Option (List ℕ)) (ahead : List ℕ) → ahead ≡ [] → Passed old (prepend_known ahead known) → Passed old known
passed_known old None ahead empty so_far = so_far
passed_known old (Some xs) ahead empty so_far = rw empty at so_far

-- what was read ahead comes before what is read
pub consumes_ahead : (known rest : Option (List ℕ)) (ahead bytes : List ℕ) → Consumes known rest bytes → Consumes (prepend_known ahead known) rest (ahead ++ bytes)
consumes_ahead None rest ahead bytes h = tt
consumes_ahead (Some xs) None ahead bytes h = h
consumes_ahead (Some xs) (Some ys) ahead bytes h = ap (λ (zs : List ℕ). ahead ++ zs) h ∙ sym (append_assoc ahead bytes ys)

starts_known : (known : Option (List ℕ)) (front ahead : List ℕ) → ahead ≡ [] → Consumes (prepend_known front known) (prepend_known ahead known) front
starts_known None front ahead empty = tt
starts_known (Some xs) front ahead empty = rw empty refl

-- the front that was taken before
pub starts : (known : Option (List ℕ)) (front ahead line : List ℕ) (long : Bool) → ahead ≡ [] → HasNoFeed front → Holds long line front → SoFar (prepend_known front known) (prepend_known ahead known) line long
starts known front ahead line long empty clean holds = record { taken = front; consumed = starts_known known front ahead empty; no_feed = clean; holds = holds }

pub goes_on : (old known : Option (List ℕ)) (ahead rest line after : List ℕ) (long now : Bool) → SoFar old (prepend_known ahead known) line long → ((taken : List ℕ) → Holds long line taken → TakesPart taken ahead rest after (Open now)) → SoFar old (prepend_known rest known) after now
goes_on old known ahead rest line after long now so_far part =
    let p = part so_far.taken so_far.holds in
    record {
      taken = so_far.taken ++ ahead;
      consumed = consumes_more old known so_far.taken ahead rest ahead (sym (append-nil ahead) ∙ ap (λ (zs : List ℕ). ahead ++ zs) (sym p.1)) so_far.consumed;
      no_feed = HasNoFeed-append so_far.taken ahead so_far.no_feed p.0;
      holds = p.2;
    }

-- where nothing is read ahead, what a read keeps is all that was left
pub keeps_left : (known kept : Option (List ℕ)) (ahead : List ℕ) → ahead ≡ [] → Keeps known kept → Keeps (prepend_known ahead known) kept
keeps_left None kept ahead empty k = tt
keeps_left (Some xs) None ahead empty k = k
keeps_left (Some xs) (Some ys) ahead empty k = rw empty k

pub filled : (old new kept : Option (List ℕ)) (line : List ℕ) (long : Bool) → SoFar old new line long → Keeps new kept → SoFar old kept line long
filled old new kept line long so_far k = record { taken = so_far.taken; consumed = consumes_kept old new kept so_far.taken so_far.consumed k; no_feed = so_far.no_feed; holds = so_far.holds }

ends_known : (old known : Option (List ℕ)) (whole rest line : List ℕ) (long : Bool) → Consumes old (prepend_known (10 ∷ rest) known) whole → HasNoFeed whole → Holds long line whole → TakesLine old (prepend_known rest known) false (cond long TooLong Line) line
ends_known None known whole rest line long consumed no_feed holds = tt
ends_known (Some xs) None whole rest line long consumed no_feed holds = consumed
ends_known (Some xs) (Some ys) whole rest line false consumed no_feed holds =
    (subst HasNoFeed (sym holds.0) no_feed, consumed ∙ ap (λ (l : List ℕ). l ++ 10 ∷ (rest ++ ys)) (sym holds.0), rw holds.0 holds.1)
ends_known (Some xs) (Some ys) whole rest line true consumed no_feed holds = (whole, no_feed, consumed, holds.1, holds.0)

pub ends : (old known : Option (List ℕ)) (ahead rest line after : List ℕ) (long now : Bool) → SoFar old (prepend_known ahead known) line long → ((taken : List ℕ) → Holds long line taken → TakesPart taken ahead rest after (Ended now)) → TakesLine old (prepend_known rest known) false (cond now TooLong Line) after
ends old known ahead rest line after long now so_far part =
    let p = part so_far.taken so_far.holds in
    ends_known old known (so_far.taken ++ p.0) rest after now (consumes_more old known so_far.taken p.0 (10 ∷ rest) ahead p.2 so_far.consumed) (HasNoFeed-append so_far.taken p.0 so_far.no_feed p.1) p.3

-- what the end of the input makes of a line
abbrev pub last : Bool → List ℕ → NextLine
last long line = cond long TooLong (cond (eqb (length line) 0) End Line)

last_known : (xs taken line : List ℕ) (long : Bool) → xs ≡ taken → HasNoFeed taken → Holds long line taken → TakesLine (Some xs) (Some []) true (last long line) line
last_known xs [] line false e no_feed holds = rw holds.0 (e, refl, refl)
last_known xs (t ∷ ts) line false e no_feed holds = rw (holds.0, eqb-suc-zero (length ts)) (no_feed, (e, omega arith, refl), holds.1)
last_known xs [] line true e no_feed holds = absurd (omega (arith, holds.1))
last_known xs (t ∷ ts) line true e no_feed holds = (t ∷ ts, no_feed, (e, omega arith, refl), holds.1, holds.0)

pub is_last : (old known : Option (List ℕ)) (ahead line : List ℕ) (long : Bool) → SoFar old (prepend_known ahead known) line long → ahead ≡ [] → IsAtEnd known → TakesLine old (prepend_known ahead known) true (last long line) line
is_last None known ahead line long so_far empty at_end = tt
is_last (Some xs) None ahead line long so_far empty at_end = so_far.consumed
is_last (Some xs) (Some ys) ahead line long so_far empty at_end =
    let nothing : ahead ++ ys ≡ [] = rw (empty, at_end) refl in
    rw nothing (last_known xs so_far.taken line long (so_far.consumed ∙ ap (λ (zs : List ℕ). so_far.taken ++ zs) nothing ∙ append-nil so_far.taken) so_far.no_feed so_far.holds)

-- ---- the definition of lines

pub lines_of-ended : (lines : List (List ℕ)) → AllByRecursion HasNoFeed lines → lines_of (flat_map with_feed lines) ≡ lines
lines_of-ended [] h = refl
lines_of-ended (l ∷ ls) h =
    ap lines_of (flat_map-cons with_feed l ls ∙ append_assoc l (10 ∷ []) (flat_map with_feed ls))
    ∙ lines_of-feed l (flat_map with_feed ls) h.0
    ∙ ap (λ others. l ∷ others) (lines_of-ended ls h.1)

one_line : (last : List ℕ) → HasNoFeed last → 0 < length last → lines_of last ≡ last ∷ []
one_line [] h lt = absurd (omega arith)
one_line (x ∷ xs) h lt = lines_of-open x xs h

pub lines_of-open_last : (lines : List (List ℕ)) (last : List ℕ) → AllByRecursion HasNoFeed lines → HasNoFeed last → 0 < length last → lines_of (flat_map with_feed lines ++ last) ≡ lines ++ last ∷ []
lines_of-open_last [] last h k lt = one_line last k lt
lines_of-open_last (l ∷ ls) last h k lt =
    ap (λ (bytes : List ℕ). lines_of (bytes ++ last)) (flat_map-cons with_feed l ls)
    ∙ ap lines_of (append_assoc (with_feed l) (flat_map with_feed ls) last ∙ append_assoc l (10 ∷ []) (flat_map with_feed ls ++ last))
    ∙ lines_of-feed l (flat_map with_feed ls ++ last) h.0
    ∙ ap (λ others. l ∷ others) (lines_of-open_last ls last h.1 k lt)

-- the lines of bytes that begin with lines and their line feeds
pub lines_of-rest : (lines : List (List ℕ)) (rest : List ℕ) → AllByRecursion HasNoFeed lines → lines_of (flat_map with_feed lines ++ rest) ≡ lines ++ lines_of rest
lines_of-rest [] rest h = refl
lines_of-rest (l ∷ ls) rest h =
    ap (λ (bytes : List ℕ). lines_of (bytes ++ rest)) (flat_map-cons with_feed l ls)
    ∙ ap lines_of (append_assoc (with_feed l) (flat_map with_feed ls) rest ∙ append_assoc l (10 ∷ []) (flat_map with_feed ls ++ rest))
    ∙ lines_of-feed l (flat_map with_feed ls ++ rest) h.0
    ∙ ap (λ others. l ∷ others) (lines_of-rest ls rest h.1)

-- the bytes are lines with their line feeds, and then some bytes with none
abbrev pub Cuts : List ℕ → Type 0
Cuts bytes = (lines : List (List ℕ)) × (last : List ℕ) × AllByRecursion HasNoFeed lines × HasNoFeed last × (bytes ≡ flat_map with_feed lines ++ last)

cuts_longer : (x : ℕ) (bytes : List ℕ) (lines : List (List ℕ)) (last : List ℕ) → x ≢ 10 → AllByRecursion HasNoFeed lines → HasNoFeed last → bytes ≡ flat_map with_feed lines ++ last → Cuts (x ∷ bytes)
cuts_longer x bytes [] last ne h k e = ([], x ∷ last, tt, (ne, k), ap (λ bs. x ∷ bs) e)
cuts_longer x bytes (l ∷ ls) last ne h k e = (
  (x ∷ l) ∷ ls,
  last,
  ((ne, h.0), h.1),
  k,
  ap (λ bs. x ∷ bs) e ∙ ap (λ (bs : List ℕ). x ∷ (bs ++ last)) (flat_map-cons with_feed l ls) ∙ sym (ap (λ (bs : List ℕ). bs ++ last) (flat_map-cons with_feed (x ∷ l) ls)),
)

cuts_feed : (x : ℕ) (bytes : List ℕ) (lines : List (List ℕ)) (last : List ℕ) → x ≡ 10 → AllByRecursion HasNoFeed lines → HasNoFeed last → bytes ≡ flat_map with_feed lines ++ last → Cuts (x ∷ bytes)
cuts_feed x bytes lines last is h k e = (
  [] ∷ lines,
  last,
  (tt, h),
  k,
  ap (λ c. c ∷ bytes) is ∙ ap (λ bs. 10 ∷ bs) e ∙ sym (ap (λ (bs : List ℕ). bs ++ last) (flat_map-cons with_feed [] lines)),
)

-- each input is cut so
pub cuts_every : (bytes : List ℕ) → Cuts bytes
cuts_every [] = ([], [], tt, tt, refl)
cuts_every (x ∷ xs) =
    let cut = cuts_every xs in
    elim (eqb_tells x 10) [
      | inl same ↦ cuts_feed x xs cut.0 cut.1 same.1 cut.2 cut.3 cut.4
      | inr other ↦ cuts_longer x xs cut.0 cut.1 other.1 cut.2 cut.3 cut.4
    ]
