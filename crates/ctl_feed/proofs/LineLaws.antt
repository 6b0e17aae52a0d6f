-- What the parts of a line make of the lines of an input.
use Rattle.std.proofs.Common.{◌≡◌, ℕ, ◌+◌, ◌<◌, ◌≤◌, ◌==◌, Bool, true, false, cond, List, [], ◌∷◌, ◌++◌, length, take, drop, Option, Some, None, refl, sym, ap, ◌∙◌, append_assoc, append-nil, arith, length-append, length-take-le}
use Rattle.std.proofs.Math.Seq.{take-append_seam}
use Rattle.std.specs.Prelude.{IfSome}
use Rattle.std.specs.Io.KnownBytes.{Consumes}
use Rattle.std.proofs.lemmas.Bool.{ne_eqb}
use Rattle.std.proofs.Math.Dec.{eqb-suc-zero}
use Rattle.ctl_feed.specs.declared.lines.NextLine.TheVariants.{Line, TooLong, End}
use Rattle.ctl_feed.specs.declared.lines.Part.TheVariants.{Ended, Open, AtEnd}
use Rattle.ctl_feed.specs.Lines.{HasNoFeed, Holds, TakesLine, TakesPart, lines_of}

-- ---- lines

HasNoFeed-append : (xs ys : List ℕ) → HasNoFeed xs → HasNoFeed ys → HasNoFeed (xs ++ ys)
HasNoFeed-append [] ys h k = k
HasNoFeed-append (x ∷ xs) ys h k = (h.0, HasNoFeed-append xs ys h.1 k)

-- a line feed ends the first line
lines_of-feed : (front rest : List ℕ) → HasNoFeed front → lines_of (front ++ 10 ∷ rest) ≡ front ∷ lines_of rest
lines_of-feed [] rest h = refl
lines_of-feed (x ∷ xs) rest h = rw (ne_eqb x 10 h.0, lines_of-feed xs rest h.1) refl

-- bytes with no line feed are one line
lines_of-open : (x : ℕ) (xs : List ℕ) → HasNoFeed (x ∷ xs) → lines_of (x ∷ xs) ≡ (x ∷ xs) ∷ []
lines_of-open x [] h = rw (ne_eqb x 10 h.0) refl
lines_of-open x (y ∷ ys) h = rw (ne_eqb x 10 h.0) (rw (lines_of-open y ys h.1) refl)

-- ---- what is at hand

-- the bytes up to a line feed and with it
pub take-feed : (ahead : List ℕ) (index : ℕ) → index < length ahead → ahead ≡ take index ahead ++ 10 ∷ drop (index + 1) ahead → take (index + 1) ahead ≡ take index ahead ++ 10 ∷ []
take-feed ahead index lt is =
    let front = take index ahead in
    let rest = drop (index + 1) ahead in
    let within : index ≤ length ahead = omega arith in
    let whole : ahead ≡ (front ++ 10 ∷ []) ++ rest = is ∙ sym (append_assoc front (10 ∷ []) rest) in
    let len : length (front ++ 10 ∷ []) ≡ index + 1 = omega (arith, length-append front (10 ∷ []), length-take-le index ahead within) in
    ap (take (index + 1)) whole ∙ ap (λ n. take n ((front ++ 10 ∷ []) ++ rest)) (sym len) ∙ take-append_seam (front ++ 10 ∷ []) rest

-- ---- a line so far

-- what was taken of a line since old bytes were left
pub record SoFar (most : ℕ) (old new : Option (List ℕ)) (line : List ℕ) (long : Bool) : Type 0 where
  pub taken : List ℕ
  pub consumed : Consumes old new taken
  pub no_feed : HasNoFeed taken
  pub holds : Holds most long line taken

consumes_both : (a b c : Option (List ℕ)) (xs ys : List ℕ) → Consumes a b xs → Consumes b c ys → Consumes a c (xs ++ ys)
consumes_both None b c xs ys h k = tt
consumes_both (Some old) None c xs ys h k = absurd h
consumes_both (Some old) (Some mid) None xs ys h k = absurd k
consumes_both (Some old) (Some mid) (Some new) xs ys h k = h ∙ ap (λ l. xs ++ l) k ∙ sym (append_assoc xs ys new)

consumes_none : (o : Option (List ℕ)) → Consumes o o []
consumes_none None = tt
consumes_none (Some xs) = refl

pub none_so_far : (most : ℕ) (o : Option (List ℕ)) (line : List ℕ) → line ≡ [] → SoFar most o o line false
none_so_far most o line empty = record { taken = []; consumed = consumes_none o; no_feed = tt; holds = (empty, omega arith) }

pub more_so_far : (most : ℕ) (old mid new : Option (List ℕ)) (line after : List ℕ) (was long : Bool) → SoFar most old mid line was → TakesPart most mid new was line after (Open long) → SoFar most old new after long
more_so_far most old mid new line after was long so part = record {
  taken = so.taken ++ part.0;
  consumed = consumes_both old mid new so.taken part.0 so.consumed part.2;
  no_feed = HasNoFeed-append so.taken part.0 so.no_feed part.1;
  holds = part.3 so.taken so.holds;
}

found_by : (most : ℕ) (xs rest whole line : List ℕ) (new : Option (List ℕ)) (long : Bool) → new ≡ Some rest → lines_of xs ≡ whole ∷ lines_of rest → Holds most long line whole → TakesLine most xs new line (cond long TooLong Line)
found_by most xs rest whole line new true left lines holds = (whole, rest, left, lines, holds.1)
found_by most xs rest whole line new false left lines holds = (rest, left, lines ∙ ap (λ l. l ∷ lines_of rest) (sym holds.0))

pub ended : (most : ℕ) (old mid new : Option (List ℕ)) (line after : List ℕ) (was long : Bool) → SoFar most old mid line was → TakesPart most mid new was line after (Ended long) → IfSome old (λ xs. TakesLine most xs new after (cond long TooLong Line))
ended most None mid new line after was long so part = tt
ended most (Some xs) None new line after was long so part = absurd so.consumed
ended most (Some xs) (Some ys) None line after was long so part = absurd part.2
ended most (Some xs) (Some ys) (Some zs) line after was long so part =
    let whole = so.taken ++ part.0 in
    let bytes : xs ≡ whole ++ 10 ∷ zs = so.consumed ∙ ap (λ l. so.taken ++ l) (part.2 ∙ append_assoc part.0 (10 ∷ []) zs) ∙ sym (append_assoc so.taken part.0 (10 ∷ zs)) in
    found_by most xs zs whole after (Some zs) long refl (ap lines_of bytes ∙ lines_of-feed whole zs (HasNoFeed-append so.taken part.0 so.no_feed part.1)) (part.3 so.taken so.holds)

end_by : (most : ℕ) (xs taken line : List ℕ) (long : Bool) → xs ≡ taken → HasNoFeed taken → Holds most long line taken → TakesLine most xs (Some []) line (cond long TooLong (cond (length line == 0) End Line))
end_by most xs [] line true is clean holds = absurd (omega (arith, holds.1))
end_by most xs (x ∷ t) line true is clean holds = (x ∷ t, [], refl, ap lines_of is ∙ lines_of-open x t clean, holds.1)
end_by most xs [] line false is clean holds = rw holds.0 (ap lines_of is, refl)
end_by most xs (x ∷ t) line false is clean holds = rw (holds.0, eqb-suc-zero (length t)) ([], refl, ap lines_of is ∙ lines_of-open x t clean)

pub at_end : (most : ℕ) (old mid new : Option (List ℕ)) (line after : List ℕ) (long : Bool) → SoFar most old mid line long → TakesPart most mid new long line after AtEnd
    → IfSome old (λ xs. TakesLine most xs new after (cond long TooLong (cond (length after == 0) End Line)))
at_end most None mid new line after long so part = tt
at_end most (Some xs) None new line after long so part = absurd so.consumed
at_end most (Some xs) (Some ys) None line after long so part = absurd part.0
at_end most (Some xs) (Some ys) (Some zs) line after long so part =
    let none : zs ≡ [] = part.1 in
    let whole : xs ≡ so.taken = so.consumed ∙ ap (λ l. so.taken ++ l) (part.0 ∙ none) ∙ append-nil so.taken in
    rw (part.2, none) (end_by most xs so.taken line long whole so.no_feed so.holds)
