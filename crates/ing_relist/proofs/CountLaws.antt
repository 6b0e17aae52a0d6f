-- What is counted of entries that follow one another, and of blocks.
use Rattle.std.proofs.Common.{◌≡◌, ℕ, zero, suc, ◌+◌, ◌-◌, ◌<◌, ◌≤◌, ◌^◌, max, min, List, [], ◌∷◌, ◌++◌, length, get_or, take, sym, ap, ◌∙◌, append_assoc, append-nil, arith, add-one, length-append}
use Rattle.std.proofs.lemmas.List.{take_more}
use Rattle.std.proofs.lemmas.List.Sums.{sum_by-append}
use Rattle.ing_rows.specs.Rows.{size_of}
use Rattle.ing_chunk.specs.declared.numbered.Numbered.{Numbered}
use Rattle.ing_chunk.specs.Chunks.{in_blocks, least_of, greatest_of}
use Rattle.ing_relist.specs.declared.counted.Counted.{Counted}
use Rattle.ing_relist.specs.Counts.{AddsTo}

-- ---- the first blocks, and one more

in_blocks_suc : (bs : List (List Numbered)) (i : ℕ) (d : List Numbered) → i < length bs → in_blocks (take (suc i) bs) ≡ in_blocks (take i bs) ++ get_or bs i d
in_blocks_suc [] i d lt = absurd (omega arith)
in_blocks_suc (b ∷ bs) zero d lt = append-nil b
in_blocks_suc (b ∷ bs) (suc i) d lt = ap (λ (t : List Numbered). b ++ t) (in_blocks_suc bs i d (omega arith)) ∙ sym (append_assoc b (in_blocks (take i bs)) (get_or bs i d))

pub in_blocks_more : (bs : List (List Numbered)) (i : ℕ) (b : List Numbered) → i < length bs → b ≡ get_or bs i b → in_blocks (take (i + 1) bs) ≡ in_blocks (take i bs) ++ b
in_blocks_more bs i b lt is = rw add-one (in_blocks_suc bs i b lt ∙ ap (λ (t : List Numbered). in_blocks (take i bs) ++ t) (sym is))

-- ---- the first entries, and one more

pub entries_more : (es : List Numbered) (i : ℕ) (e : Numbered) → i < length es → e ≡ get_or es i e → take (i + 1) es ≡ take i es ++ e ∷ []
entries_more es i e lt is = take_more es i e lt ∙ ap (λ (x : Numbered). take i es ++ x ∷ []) (sym is)

-- ---- counts of entries behind others

pub least_small : (es : List Numbered) → least_of es ≤ 2 ^ 63 - 1
least_small [] = omega arith
least_small (e ∷ es) = omega (arith, least_small es)

least-append : (xs ys : List Numbered) → least_of (xs ++ ys) ≡ min (least_of xs) (least_of ys)
least-append [] ys = omega (arith, least_small ys)
least-append (x ∷ xs) ys = omega (arith, least-append xs ys)

pub greatest-append : (xs ys : List Numbered) → greatest_of (xs ++ ys) ≡ max (greatest_of xs) (greatest_of ys)
greatest-append [] ys = omega arith
greatest-append (x ∷ xs) ys = omega (arith, greatest-append xs ys)

pub adds_more : (xs ys : List Numbered) (a b c : Counted) → AddsTo xs a b → AddsTo ys b c → AddsTo (xs ++ ys) a c
adds_more xs ys a b c first then =
    record {
      count = omega (arith, first.count, then.count, length-append xs ys);
      size = omega (arith, first.size, then.size, sum_by-append (λ (e : Numbered). size_of e.entry) xs ys);
      least = omega (arith, first.least, then.least, least-append xs ys);
      greatest = omega (arith, first.greatest, then.greatest, greatest-append xs ys);
    }
