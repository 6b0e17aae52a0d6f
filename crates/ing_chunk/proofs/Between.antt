-- Entries of a range of stamps: none where all stamps are below it or at its end and above.
use Rattle.std.proofs.Common.{◌≡◌, refl, ℕ, ◌<◌, ◌≤◌, ◌⊎◌, inl, inr, List, [], ◌∷◌, filter, cond, false, ap, ◌∙◌, arith}
use Rattle.std.proofs.lemmas.Bool.Decides.{nat_tests}
use Rattle.ing_chunk.specs.declared.numbered.Numbered.{Numbered}
use Rattle.ing_chunk.specs.Chunks.{is_between, greatest_of, least_of}

is_below : (start end : ℕ) (e : Numbered) → e.entry.stamp < start → is_between start end e ≡ false
is_below start end e h = grind (arith, nat_tests)

is_above : (start end : ℕ) (e : Numbered) → end ≤ e.entry.stamp → is_between start end e ≡ false
is_above start end e h = grind (arith, nat_tests)

none_below : (start end : ℕ) (es : List Numbered) → greatest_of es < start → filter (is_between start end) es ≡ []
none_below start end [] h = refl
none_below start end (e ∷ es) h =
    ap (λ b. cond b (e ∷ filter (is_between start end) es) (filter (is_between start end) es)) (is_below start end e (omega (arith, h)))
    ∙ none_below start end es (omega (arith, h))

none_above : (start end : ℕ) (es : List Numbered) → end ≤ least_of es → filter (is_between start end) es ≡ []
none_above start end [] h = refl
none_above start end (e ∷ es) h =
    ap (λ b. cond b (e ∷ filter (is_between start end) es) (filter (is_between start end) es)) (is_above start end e (omega (arith, h)))
    ∙ none_above start end es (omega (arith, h))

pub outside : (start end : ℕ) (es : List Numbered) → (greatest_of es < start) ⊎ (end ≤ least_of es) → filter (is_between start end) es ≡ []
outside start end es (inl h) = none_below start end es h
outside start end es (inr h) = none_above start end es h
