-- Fronts that are looked up, and the rows that came since.
use Rattle.std.proofs.Common.{◌≡◌, ◌<◌, ◌≤◌, ℕ, zero, suc, Bool, true, false, cond, ◌&&◌, List, [], ◌∷◌, ◌++◌, nat_lt, length, map, take, Some, None, refl, ap, sym, subst, ◌∙◌, arith, get_or, inl, inr}
use Rattle.std.specs.Prelude.{◌⊎◌, Option, All, IfSome, IsPermutation, slice_get}
use Rattle.std.specs.List.{flat_map}
use Rattle.std.specs.Cmp.{IsStrictWeakOrder, IsTotalOrder}
use Rattle.std.specs.Cmp.Lexicographic.{slice_cmp}
use Rattle.std.specs.List.Sorted.{IsPartitionPoint, IsSortedBy}
use Rattle.std.specs.Ordering.{nat_cmp}
use Rattle.std.specs.declared.cmp.Ordering.{Ordering}
use Rattle.std.specs.declared.cmp.Ordering.TheVariants.{Less, Equal, Greater}
use Rattle.std.proofs.lemmas.Cmp.{nat_list_cmp_total, on_total, then_total, tied_itself}
use Rattle.std.proofs.lemmas.List.Elements.{All-cons, All-from_all_within, All-head, All-map, All-nil, All-tail, All-weaker, filter-append}
use Rattle.std.proofs.lemmas.Bool.{ltb-true, ltb-false}
use Rattle.std.proofs.lemmas.List.{map-append}
use Rattle.std.proofs.lemmas.List.Sorted.{All-permutation, IsPermutation-sym, ranks_by}
use Rattle.std.proofs.lemmas.Slice.Eq.{bytes_eq-Decides}
use Rattle.ing_rows.specs.Rows.{Row, StreamKey, count_of, rows_of, same_stream}
use Rattle.ing_shard.specs.declared.listed.StreamFront.{StreamFront}
use Rattle.ing_diary.specs.Fronts.{AreFronts, front_before, front_in, stream_cmp, stream_of}
use Rattle.ing_diary.proofs.NoteLaws.{equal_then, same_text, stream_same, take_next}
use Rattle.ing_diary.proofs.ReadLaws.{listed_there}

-- ---- the order

pub total : IsTotalOrder stream_cmp
total = then_total (on_total (λ (s : StreamKey). s.tenant) nat_list_cmp_total) (on_total (λ (s : StreamKey). s.name) nat_list_cmp_total)

pub before_is_order : IsStrictWeakOrder front_before
before_is_order = ranks_by total stream_of

-- streams of which neither stands before the other are the same
same_names : (s t : StreamKey) → stream_cmp s t ≡ Equal → s ≡ t
same_names s t equal =
    let parts = equal_then (slice_cmp nat_cmp s.tenant t.tenant) (slice_cmp nat_cmp s.name t.name) equal in
    let tenant = same_text s.tenant t.tenant parts.0 in
    let name = same_text s.name t.name parts.1 in
    λ i. record { tenant = tenant i; name = name i }

same_there : (s : StreamKey) → same_stream s s ≡ true
same_there s =
    let tenant = (bytes_eq-Decides s.tenant s.tenant).1 refl in
    let name = (bytes_eq-Decides s.name s.name).1 refl in
    λ i. tenant i && name i

-- ---- one that is looked up

pub found_front : (fs : List StreamFront) (s : StreamKey) (f : StreamFront) → front_in fs (stream_of f) ≡ f.front → stream_cmp (stream_of f) s ≡ Equal → f.front ≡ front_in fs s
found_front fs s f one equal = sym one ∙ ap (front_in fs) (same_names (stream_of f) s equal)

other_stream : (t s : StreamKey) → (stream_cmp t s ≡ Equal → ⊥) → same_stream t s ≡ false
other_stream t s other = by (same_stream t s) refl where
  by : (b : Bool) → same_stream t s ≡ b → b ≡ false
  by true same = absurd (other (ap (stream_cmp t) (sym (stream_same t s same)) ∙ tied_itself total t))
  by false same = refl

-- where no stream is this one it has no front
pub none_in : (fs : List StreamFront) (s : StreamKey) → All (λ f. same_stream (stream_of f) s ≡ false) fs → front_in fs s ≡ 0
none_in [] s none = refl
none_in (f ∷ fs) s none =
    ap (λ b. cond b f.front (front_in fs s)) (All-head (λ (x : StreamFront). same_stream (stream_of x) s ≡ false) f fs none)
    ∙ none_in fs s (All-tail (λ (x : StreamFront). same_stream (stream_of x) s ≡ false) f fs none)

pub missed_front : (fs : List StreamFront) (s : StreamKey) (place : ℕ)
    → IsPartitionPoint (λ f. stream_cmp (stream_of f) s ≡ Less) (λ f. stream_cmp (stream_of f) s ≡ Greater) fs place → place ≤ length fs → 0 ≡ front_in fs s
missed_front fs s place parted within =
    sym (none_in fs s (All-from_all_within (λ f. same_stream (stream_of f) s ≡ false) fs (λ k d low high. by k d (nat_lt k place) refl high))) where
      less : (o : Ordering) → o ≡ Less → o ≡ Equal → ⊥
      less o is equal = let wrong : Less ≡ Equal = sym is ∙ equal in cc

      greater : (o : Ordering) → o ≡ Greater → o ≡ Equal → ⊥
      greater o is equal = let wrong : Greater ≡ Equal = sym is ∙ equal in cc

      by : (k : ℕ) (d : StreamFront) (b : Bool) → nat_lt k place ≡ b → k < length fs → same_stream (stream_of (get_or fs k d)) s ≡ false
      by k d true is high = other_stream (stream_of (get_or fs k d)) s (less (stream_cmp (stream_of (get_or fs k d)) s) (parted.0 k d (omega arith) (ltb-true k place is)))
      by k d false is high = other_stream (stream_of (get_or fs k d)) s (greater (stream_cmp (stream_of (get_or fs k d)) s) (parted.1 k d (ltb-false k place is) high))

-- ---- fronts of a shard

-- each is as many as the rows of its stream
abbrev pub Count : List Row → StreamFront → Type 0
Count rows f = f.front ≡ count_of rows (stream_of f)

-- a stream among them has its count, and else none of them is this stream's
front_or : (rows : List Row) (fs : List StreamFront) → All (Count rows) fs → (s : StreamKey) → (front_in fs s ≡ count_of rows s) ⊎ All (λ f. same_stream (stream_of f) s ≡ false) fs
front_or rows [] all s = inr (All-nil (λ (f : StreamFront). same_stream (stream_of f) s ≡ false))
front_or rows (f ∷ fs) all s = by (same_stream (stream_of f) s) refl (front_or rows fs (All-tail (Count rows) f fs all) s) where
  by : (b : Bool) → same_stream (stream_of f) s ≡ b → (front_in fs s ≡ count_of rows s) ⊎ All (λ g. same_stream (stream_of g) s ≡ false) fs
      → (cond b f.front (front_in fs s) ≡ count_of rows s) ⊎ All (λ g. same_stream (stream_of g) s ≡ false) (f ∷ fs)
  by true is rest = inl (All-head (Count rows) f fs all ∙ ap (count_of rows) (stream_same (stream_of f) s is))
  by false is (inl had) = inl had
  by false is (inr none) = inr (All-cons (λ (g : StreamFront). same_stream (stream_of g) s ≡ false) f fs is none)

-- rows of another stream
none_other : (s k : StreamKey) (rows : List Row) → same_stream k s ≡ false → rows_of s (rows_of k rows) ≡ []
none_other s k [] other = refl
none_other s k (r ∷ rows) other = by (same_stream r.stream k) refl (none_other s k rows other) where
  by : (b : Bool) → same_stream r.stream k ≡ b → rows_of s (rows_of k rows) ≡ [] → rows_of s (cond b (r ∷ rows_of k rows) (rows_of k rows)) ≡ []
  by true is rest =
      let not_s : same_stream r.stream s ≡ false = ap (λ t. same_stream t s) (stream_same r.stream k is) ∙ other in
      ap (λ b. cond b (r ∷ rows_of s (rows_of k rows)) (rows_of s (rows_of k rows))) not_s ∙ rest
  by false is rest = rest

none_among : (s : StreamKey) (rows : List Row) (listed : List StreamKey) → All (λ k. same_stream k s ≡ false) listed → rows_of s (flat_map (λ k. rows_of k rows) listed) ≡ []
none_among s rows [] none = refl
none_among s rows (k ∷ listed) none =
    filter-append (λ r. same_stream r.stream s) (rows_of k rows) (flat_map (λ k. rows_of k rows) listed)
    ∙ (λ i. none_other s k rows (All-head (λ (x : StreamKey). same_stream x s ≡ false) k listed none) i
    ++ none_among s rows listed (All-tail (λ (x : StreamKey). same_stream x s ≡ false) k listed none) i)

of_keys : (P : StreamKey → Type 0) (fs : List StreamFront) → All (λ f. P (stream_of f)) fs → All P (map stream_of fs)
of_keys P fs all = All-map P stream_of fs all

-- those of all listed streams are the shard's, in whatever order
pub fronts_of : (rows : List Row) (listed : List StreamKey) (fs gs : List StreamFront) → flat_map (λ k. rows_of k rows) listed ≡ rows
    → map stream_of fs ≡ listed → All (Count rows) fs → IsPermutation fs gs → (s : StreamKey) → front_in gs s ≡ count_of rows s
fronts_of rows listed fs gs whole keys all same s = by (front_or rows gs (All-permutation (Count rows) fs gs same all) s) where
  by : (front_in gs s ≡ count_of rows s) ⊎ All (λ f. same_stream (stream_of f) s ≡ false) gs → front_in gs s ≡ count_of rows s
  by (inl had) = had
  by (inr none) =
      let before : All (λ f. same_stream (stream_of f) s ≡ false) fs = All-permutation (λ f. same_stream (stream_of f) s ≡ false) gs fs (IsPermutation-sym fs gs same) none in
      let others : All (λ k. same_stream k s ≡ false) listed = subst (All (λ k. same_stream k s ≡ false)) keys (of_keys (λ k. same_stream k s ≡ false) fs before) in
      none_in gs s none ∙ sym (ap length (ap (rows_of s) (sym whole) ∙ none_among s rows listed others))

-- and so they are what is looked up
pub are_fronts : (rows : List Row) (fs gs : List StreamFront) → All (Count rows) fs → IsPermutation fs gs → IsSortedBy front_before gs
    → ((s : StreamKey) → front_in gs s ≡ count_of rows s) → AreFronts gs
are_fronts rows fs gs all same sorted each = record {
  sorted = sorted;
  one = All-weaker (Count rows) (λ f. front_in gs (stream_of f) ≡ f.front) (λ f is. each (stream_of f) ∙ sym is) gs (All-permutation (Count rows) fs gs same all);
}

-- one front after another
pub next_front : (rows : List Row) (listed : List StreamKey) (i : ℕ) (fs : List StreamFront) (f : StreamFront) → i < length listed → IfSome (slice_get listed i) (λ s. stream_of f ≡ s)
    → map stream_of fs ≡ take i listed → map stream_of (fs ++ f ∷ []) ≡ take (suc i) listed
next_front rows listed i fs f below key before = by (slice_get listed i) refl key where
  by : (o : Option StreamKey) → slice_get listed i ≡ o → IfSome o (λ s. stream_of f ≡ s) → map stream_of (fs ++ f ∷ []) ≡ take (suc i) listed
  by None at key = absurd (listed_there listed i below at)
  by (Some s) at key =
      map-append stream_of fs (f ∷ []) ∙ (λ j. before j ++ key j ∷ []) ∙ sym (take_next listed i s at)

pub whole_taken : {X : Type 0} (xs : List X) (i n : ℕ) → n ≡ length xs → (i < n → ⊥) → take i xs ≡ xs
whole_taken [] zero n is past = refl
whole_taken [] (suc i) n is past = refl
whole_taken (x ∷ xs) zero n is past = absurd (past (omega (arith, is)))
whole_taken (x ∷ xs) (suc i) n is past = ap (λ l. x ∷ l) (whole_taken xs i (length xs) refl (λ below. past (omega (arith, is, below))))
