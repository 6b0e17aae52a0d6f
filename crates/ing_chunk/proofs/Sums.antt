-- What is kept of entries, as they grow and are put in order.
use Rattle.std.proofs.Common.{◌≡◌, ◌≢◌, ℕ, ◌+◌, ◌<◌, ◌≤◌, max, min, List, [], ◌∷◌, ◌++◌, length, sym, ap, ◌∙◌, arith, append_assoc, append-nil, length-append, cond, nat_eq, sum_by, refl, ◌^◌, subst}
use Rattle.std.specs.Prelude.{All, IsPermutation}
use Rattle.std.proofs.lemmas.List.Sorted.{sum_by-IsPermutation, length_permutation, IsPermutation-sym, All-permutation, IsPermutation-append_right}
use Rattle.std.proofs.lemmas.List.Sums.{sum_by-append}
use Rattle.std.proofs.lemmas.List.Elements.{All-nil, All-cons, All-head, All-tail, All-push, All-append}
use Rattle.ing_rows.specs.Rows.{size_of}
use Rattle.ing_chunk.specs.declared.numbered.Numbered.{Numbered}
use Rattle.ing_chunk.specs.Chunks.{size_of_entries, in_blocks, least_of, greatest_of, AreBlocks, starts}
use Rattle.ing_chunk.specs.declared.kept.Kept.{Kept}
use Rattle.ing_chunk.specs.Kept.{IsKeptOf}

pub size-append : (xs ys : List Numbered) → size_of_entries (xs ++ ys) ≡ size_of_entries xs + size_of_entries ys
size-append xs ys = sum_by-append (λ (e : Numbered). size_of e.entry) xs ys

pub least-append : (xs ys : List Numbered) → least_of ys ≤ 9223372036854775807 → least_of (xs ++ ys) ≡ min (least_of xs) (least_of ys)
least-append [] ys h = omega arith
least-append (x ∷ xs) ys h = omega (arith, least-append xs ys h)

pub least_small : (xs : List Numbered) → least_of xs ≤ 9223372036854775807
least_small [] = omega arith
least_small (x ∷ xs) = omega (arith, least_small xs)

pub greatest-append : (xs ys : List Numbered) → greatest_of (xs ++ ys) ≡ max (greatest_of xs) (greatest_of ys)
greatest-append [] ys = omega arith
greatest-append (x ∷ xs) ys = omega (arith, greatest-append xs ys)

pub in_blocks-append : (bs cs : List (List Numbered)) → in_blocks (bs ++ cs) ≡ in_blocks bs ++ in_blocks cs
in_blocks-append [] cs = refl
in_blocks-append (b ∷ bs) cs = ap (λ l. b ++ l) (in_blocks-append bs cs) ∙ sym (append_assoc b (in_blocks bs) (in_blocks cs))

pub in_blocks-more : (bs : List (List Numbered)) (b : List Numbered) → in_blocks (bs ++ b ∷ []) ≡ in_blocks bs ++ b
in_blocks-more bs b = in_blocks-append bs (b ∷ []) ∙ ap (λ l. in_blocks bs ++ l) (append-nil b)

pub size_reordered : (xs ys : List Numbered) → IsPermutation xs ys → size_of_entries ys ≡ size_of_entries xs
size_reordered xs ys h = sum_by-IsPermutation (λ (e : Numbered). size_of e.entry) xs ys h

pub at_least : (m : ℕ) (xs : List Numbered) → m ≤ least_of xs → All (λ e. m ≤ e.entry.stamp) xs
at_least m [] h = All-nil (λ (e : Numbered). m ≤ e.entry.stamp)
at_least m (x ∷ xs) h = All-cons (λ (e : Numbered). m ≤ e.entry.stamp) x xs (omega arith) (at_least m xs (omega arith))

pub from_least : (m : ℕ) (xs : List Numbered) → m ≤ 9223372036854775807 → All (λ e. m ≤ e.entry.stamp) xs → m ≤ least_of xs
from_least m [] small h = small
from_least m (x ∷ xs) small h = omega (arith, All-head (λ (e : Numbered). m ≤ e.entry.stamp) x xs h, from_least m xs small (All-tail (λ (e : Numbered). m ≤ e.entry.stamp) x xs h))

least_kept : (xs ys : List Numbered) → IsPermutation xs ys → least_of xs ≤ least_of ys
least_kept xs ys h =
    from_least (least_of xs) ys (least_small xs) (All-permutation (λ (e : Numbered). least_of xs ≤ e.entry.stamp) xs ys h (at_least (least_of xs) xs (omega arith)))

pub least_reordered : (xs ys : List Numbered) → IsPermutation xs ys → least_of ys ≡ least_of xs
least_reordered xs ys h = omega (arith, least_kept xs ys h, least_kept ys xs (IsPermutation-sym xs ys h))

pub at_most : (m : ℕ) (xs : List Numbered) → greatest_of xs ≤ m → All (λ e. e.entry.stamp ≤ m) xs
at_most m [] h = All-nil (λ (e : Numbered). e.entry.stamp ≤ m)
at_most m (x ∷ xs) h = All-cons (λ (e : Numbered). e.entry.stamp ≤ m) x xs (omega arith) (at_most m xs (omega arith))

pub from_greatest : (m : ℕ) (xs : List Numbered) → All (λ e. e.entry.stamp ≤ m) xs → greatest_of xs ≤ m
from_greatest m [] h = omega arith
from_greatest m (x ∷ xs) h = omega (arith, All-head (λ (e : Numbered). e.entry.stamp ≤ m) x xs h, from_greatest m xs (All-tail (λ (e : Numbered). e.entry.stamp ≤ m) x xs h))

greatest_kept : (xs ys : List Numbered) → IsPermutation xs ys → greatest_of ys ≤ greatest_of xs
greatest_kept xs ys h =
    from_greatest (greatest_of xs) ys (All-permutation (λ (e : Numbered). e.entry.stamp ≤ greatest_of xs) xs ys h (at_most (greatest_of xs) xs (omega arith)))

pub greatest_reordered : (xs ys : List Numbered) → IsPermutation xs ys → greatest_of ys ≡ greatest_of xs
greatest_reordered xs ys h = omega (arith, greatest_kept xs ys h, greatest_kept ys xs (IsPermutation-sym xs ys h))

pub some_reordered : (xs ys : List Numbered) → IsPermutation xs ys → 0 < length xs → ys ≢ []
some_reordered xs ys h some none = let many : length ys ≡ length xs = length_permutation xs ys h in omega (arith, ap length none)

-- ---- one more block, with the entries of a head

module _ (bs : List (List Numbered)) (head b : List Numbered) (h : IsPermutation head b) where
  pub block_size-more : size_of_entries (in_blocks (bs ++ b ∷ [])) ≡ size_of_entries (in_blocks bs) + size_of_entries head
  block_size-more = ap size_of_entries (in_blocks-more bs b) ∙ size-append (in_blocks bs) b ∙ ap (λ n. size_of_entries (in_blocks bs) + n) (size_reordered head b h)

  pub block_count-more : length (in_blocks (bs ++ b ∷ [])) ≡ length (in_blocks bs) + length head
  block_count-more = ap length (in_blocks-more bs b) ∙ length-append (in_blocks bs) b ∙ ap (λ n. length (in_blocks bs) + n) (length_permutation head b h)

  pub blocks-more : 0 < length head → AreBlocks bs → AreBlocks (bs ++ b ∷ [])
  blocks-more some before = All-push (λ (x : List Numbered). x ≢ []) bs b before (some_reordered head b h some)

  pub block_starts-more : (first : ℕ) → starts first (in_blocks (bs ++ b ∷ [])) ≡ starts first (in_blocks bs) + starts first head
  block_starts-more first =
      let begins : Numbered → ℕ = λ e. cond (nat_eq e.number first) 1 0 in
      ap (sum_by begins) (in_blocks-more bs b) ∙ sum_by-append begins (in_blocks bs) b ∙ ap (λ n. starts first (in_blocks bs) + n) (sum_by-IsPermutation begins head b h)

-- ---- what is kept of entries equals what computing it afresh gives

pub kept_both : (a b k : Kept) (xs ys : List Numbered) → k.count ≡ a.count + b.count → k.size ≡ a.size + b.size → k.least ≡ min a.least b.least → k.greatest ≡ max a.greatest b.greatest → IsKeptOf a xs → IsKeptOf b ys → IsKeptOf k (xs ++ ys)
kept_both a b k xs ys count size least greatest h j = record {
  count = omega (arith, count, h.count, j.count, length-append xs ys);
  size = omega (arith, size, h.size, j.size, size-append xs ys);
  least = omega (arith, least, h.least, j.least, least-append xs ys (least_small ys));
  greatest = omega (arith, greatest, h.greatest, j.greatest, greatest-append xs ys);
  small = omega (arith, size, count, h.small, j.small);
  stamps = All-append (λ (e : Numbered). e.entry.stamp < 2 ^ 63) xs ys h.stamps j.stamps;
}

kept_reordered : (k : Kept) (xs ys : List Numbered) → IsPermutation xs ys → IsKeptOf k xs → IsKeptOf k ys
kept_reordered k xs ys same h = record {
  count = h.count ∙ sym (length_permutation xs ys same);
  size = h.size ∙ sym (size_reordered xs ys same);
  least = h.least ∙ sym (least_reordered xs ys same);
  greatest = h.greatest ∙ sym (greatest_reordered xs ys same);
  small = h.small;
  stamps = All-permutation (λ (e : Numbered). e.entry.stamp < 2 ^ 63) xs ys same h.stamps;
}

-- one more block, with the entries of a head
pub kept_closed : (k : Kept) (bs : List (List Numbered)) (head b : List Numbered) → IsPermutation head b → IsKeptOf k (in_blocks bs ++ head) → IsKeptOf k (in_blocks (bs ++ b ∷ []))
kept_closed k bs head b same h =
    subst (IsKeptOf k) (sym (in_blocks-more bs b)) (kept_reordered k (in_blocks bs ++ head) (in_blocks bs ++ b) (IsPermutation-append_right (in_blocks bs) head b same) h)
