-- Of entries in order the first has the least stamp, and the last the greatest.
use Rattle.std.proofs.Common.{cond, ◌==◌, ◌≡◌, ℕ, suc, ◌+◌, ◌-◌, ◌<◌, ◌≤◌, ◌^◌, Bool, true, false, refl, List, ◌∷◌, ◌++◌, length, length-append, get_or, ap, sym, subst, arith}
use Rattle.std.specs.Prelude.{All}
use Rattle.std.specs.Cmp.{IsStrictWeakOrder, IsTotalOrder}
use Rattle.std.specs.declared.cmp.Ordering.TheVariants.{Less, Equal, Greater}
use Rattle.std.specs.Ordering.{is_lt, nat_cmp, ordering_then, then_cmp, on}
use Rattle.std.proofs.Math.Dec.{ltb}
use Rattle.std.proofs.lemmas.Bool.{lt-ltb, ltb-false, ltb-true}
use Rattle.std.proofs.lemmas.Cmp.{nat_cmp_total, on_total, then_total}
use Rattle.std.proofs.lemmas.List.{get_or-append-add, get_or_append_left}
use Rattle.std.proofs.lemmas.List.Elements.{All-from_get_or, All-get_or}
use Rattle.std.proofs.lemmas.List.Sorted.{ranks_by, sorted_far}
use Rattle.ing_chunk.specs.declared.numbered.Numbered.{Numbered}
use Rattle.ing_chunk.specs.Chunks.{AreInOrder, StampsRise, comes_before, greatest_of, least_of}
use Rattle.ing_chunk.proofs.Sums.{at_least, at_most, from_greatest, from_least}

total : IsTotalOrder (then_cmp (on (λ (e : Numbered). e.entry.stamp) nat_cmp) (on (λ (e : Numbered). e.number) nat_cmp))
total = then_total (on_total (λ (e : Numbered). e.entry.stamp) nat_cmp_total) (on_total (λ (e : Numbered). e.number) nat_cmp_total)

pub is_order : IsStrictWeakOrder comes_before
is_order = ranks_by total (λ e. e)

earlier : (a b : Numbered) → a.entry.stamp < b.entry.stamp → comes_before a b ≡ true
earlier a b h = ap (λ t. is_lt (ordering_then (cond t Less (cond (a.entry.stamp == b.entry.stamp) Equal Greater)) (nat_cmp a.number b.number))) (lt-ltb a.entry.stamp b.entry.stamp h)

pub not_later : (a b : Numbered) → comes_before b a ≡ false → a.entry.stamp ≤ b.entry.stamp
not_later a b h = by_test (ltb b.entry.stamp a.entry.stamp) refl where
  by_test : (t : Bool) → ltb b.entry.stamp a.entry.stamp ≡ t → a.entry.stamp ≤ b.entry.stamp
  by_test true is = let before : comes_before b a ≡ true = earlier b a (ltb-true b.entry.stamp a.entry.stamp is) in absurd (cc)
  by_test false is = ltb-false b.entry.stamp a.entry.stamp is

pub ordered_least : (es : List Numbered) (first : Numbered) → AreInOrder es → 0 < length es → first ≡ get_or es 0 first → first.entry.stamp < 2 ^ 63 → first.entry.stamp ≡ least_of es
ordered_least es first up some is small =
    let all : All (λ e. first.entry.stamp ≤ e.entry.stamp) es =
    All-from_get_or (λ (e : Numbered). first.entry.stamp ≤ e.entry.stamp) es first
    (λ k within. not_later first (get_or es k first) (subst (λ x. comes_before (get_or es k first) x ≡ false) (sym is) (sorted_far comes_before is_order es up 0 k first (omega arith) within))) in
    let low : first.entry.stamp ≤ least_of es = from_least first.entry.stamp es (omega arith) all in
    let there : least_of es ≤ (get_or es 0 first).entry.stamp = All-get_or (λ (e : Numbered). least_of es ≤ e.entry.stamp) es 0 first some (at_least (least_of es) es (omega arith)) in
    let high : least_of es ≤ first.entry.stamp = subst (λ (x : Numbered). least_of es ≤ x.entry.stamp) (sym is) there in
    omega arith

pub ordered_greatest : (es : List Numbered) (last : Numbered) → AreInOrder es → 0 < length es → last ≡ get_or es (length es - 1) last → last.entry.stamp ≡ greatest_of es
ordered_greatest es last up some is =
    let all : All (λ e. e.entry.stamp ≤ last.entry.stamp) es =
    All-from_get_or (λ (e : Numbered). e.entry.stamp ≤ last.entry.stamp) es last
    (λ k within. not_later (get_or es k last) last (subst (λ x. comes_before x (get_or es k last) ≡ false) (sym is) (sorted_far comes_before is_order es up k (length es - 1) last (omega arith) (omega arith)))) in
    let high : greatest_of es ≤ last.entry.stamp = from_greatest last.entry.stamp es all in
    let there : (get_or es (length es - 1) last).entry.stamp ≤ greatest_of es = All-get_or (λ (e : Numbered). e.entry.stamp ≤ greatest_of es) es (length es - 1) last (omega arith) (at_most (greatest_of es) es (omega arith)) in
    let low : last.entry.stamp ≤ greatest_of es = subst (λ (x : Numbered). x.entry.stamp ≤ greatest_of es) (sym is) there in
    omega arith

-- none before one has a higher stamp, and none behind it a lower one
pub stamps_rise : StampsRise
stamps_rise before after e up =
    let all = before ++ e ∷ after in
    let n : ℕ = length before in
    let many : length all ≡ n + suc (length after) = length-append before (e ∷ after) in
    let at_end : n + 0 ≡ n = omega arith in
    let here : get_or all n e ≡ e = subst (λ m. get_or all m e ≡ e) at_end (get_or-append-add before (e ∷ after) 0 e) in (
      All-from_get_or (λ (x : Numbered). x.entry.stamp ≤ e.entry.stamp) before e
          (λ k within.
          let at : get_or all k e ≡ get_or before k e = get_or_append_left before (e ∷ after) e k within in
          not_later (get_or before k e) e
          (subst (λ x. comes_before e x ≡ false) at (subst (λ x. comes_before x (get_or all k e) ≡ false) here (sorted_far comes_before is_order all up k n e (omega (arith, within)) (omega (arith, many)))))),
      All-from_get_or (λ (x : Numbered). e.entry.stamp ≤ x.entry.stamp) after e
          (λ k within.
          let at : get_or all (n + suc k) e ≡ get_or after k e = get_or-append-add before (e ∷ after) (suc k) e in
          not_later e (get_or after k e)
          (subst (λ x. comes_before x e ≡ false) at (subst (λ x. comes_before (get_or all (n + suc k) e) x ≡ false) here (sorted_far comes_before is_order all up n (n + suc k) e (omega arith) (omega (arith, within, many)))))),
    )
