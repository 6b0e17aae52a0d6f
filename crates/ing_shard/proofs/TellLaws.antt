-- What streams tell: texts that are added, and streams that are looked at one after another.
use Rattle.std.proofs.Common.{◌≡◌, ◌+◌, ℕ, zero, suc, Bool, true, false, cond, not, ◌&&◌, ◌||◌, ◌==◌, List, [], ◌∷◌, bytes_eq, length, map, take, Some, refl, ap, sym, ◌∙◌, arith}
use Rattle.std.specs.Prelude.{slice_get}
use Rattle.std.specs.BTreeMap.{is_at}
use Rattle.std.specs.BTreeSet.{BTreeSet, UpdatesBy, contains_text}
use Rattle.std.specs.Cmp.Lexicographic.{slice_cmp}
use Rattle.std.specs.List.{AllByRecursion, flat_map, list_any}
use Rattle.std.specs.List.Sorted.{IsStrictlySortedBy}
use Rattle.std.specs.Ordering.{nat_cmp}
use Rattle.std.specs.String.{string_bytes, string_cmp}
use Rattle.std.specs.declared.alloc.Global.{Global}
use Rattle.std.specs.declared.cmp.Ordering.TheVariants.{Less}
use Rattle.std.specs.declared.string.String.{String}
use Rattle.std.proofs.lemmas.Bool.Decides.{nat_tests}
use Rattle.std.proofs.lemmas.List.Folds.{list_any-append}
use Rattle.std.proofs.lemmas.Map.Text.{btree_set_updates_text, is_eq-slice_cmp}
use Rattle.std.proofs.lemmas.Slice.Eq.{bytes_eq-Decides}
use Rattle.ing_labels.specs.Labels.{LabelMap, IsLabelSet, Pair, is_named, name_order}
use Rattle.ing_labels.specs.Selectors.{selects}
use Rattle.ing_rows.specs.Rows.{Row, StreamKey, count_of, rows_of, same_stream}
use Rattle.ing_shard.specs.Catalog.{AddsCatalog, Asked, Tells, is_among, some_tells, tells, tells_here}
use Rattle.ing_shard.specs.Contents.{stream_of}
use Rattle.ing_shard.proofs.PositionLaws.{same_key}

-- ---- texts

abbrev Set : Type 0
Set = BTreeSet (String Global)

abbrev pub texts_of : Set → List (List ℕ)
texts_of set = map string_bytes set.keys

-- a text is among those of a set where the set has it
among_keys : (t : List ℕ) (keys : List (String Global)) → is_among t (map string_bytes keys) ≡ list_any (is_at (λ k. slice_cmp nat_cmp t (string_bytes k))) keys
among_keys t [] = refl
among_keys t (k ∷ keys) = λ i. sym (is_eq-slice_cmp t (string_bytes k)) i || among_keys t keys i

pub among_set : (t : List ℕ) (set : Set) → is_among t (texts_of set) ≡ contains_text set t
among_set t set = among_keys t set.keys

or_of : (b x : Bool) → cond b true x ≡ (b || x)
or_of true x = refl
or_of false x = refl

-- one more text
pub among_more : (text t : List ℕ) (old new : Set) → UpdatesBy string_cmp (λ k. slice_cmp nat_cmp text (string_bytes k)) old new true
    → is_among t (texts_of new) ≡ (bytes_eq text t || is_among t (texts_of old))
among_more text t old new updates =
    among_set t new ∙ btree_set_updates_text text old new true updates t ∙ or_of (bytes_eq text t) (contains_text old t)
    ∙ ap (λ b. bytes_eq text t || b) (sym (among_set t old))

-- or one that is there
pub among_same : (text t : List ℕ) (texts : List (List ℕ)) → is_among text texts ≡ true → is_among t texts ≡ (bytes_eq text t || is_among t texts)
among_same text t texts there = by (bytes_eq text t) refl where
  by : (b : Bool) → bytes_eq text t ≡ b → is_among t texts ≡ (b || is_among t texts)
  by true same = ap (λ u. is_among u texts) (sym ((bytes_eq-Decides text t).0 same)) ∙ there
  by false same = refl

-- the texts of a set rise
all_rise : (k : String Global) (keys : List (String Global)) → AllByRecursion (λ y. string_cmp k y ≡ Less) keys → AllByRecursion (λ t. name_order (string_bytes k) t ≡ Less) (map string_bytes keys)
all_rise k [] below = tt
all_rise k (x ∷ keys) below = (below.0, all_rise k keys below.1)

pub texts_rise : (keys : List (String Global)) → IsStrictlySortedBy string_cmp keys → IsStrictlySortedBy name_order (map string_bytes keys)
unfolding IsStrictlySortedBy
texts_rise [] sorted = tt
texts_rise (k ∷ keys) sorted = (all_rise k keys sorted.0, texts_rise keys sorted.1)

-- ---- the labels of a stream

-- while names are added: all but those of the pairs that are left
abbrev pub AddsNames : List Pair → List Pair → List (List ℕ) → List (List ℕ) → Type 0
AddsNames all left old new = (t : List ℕ) → (is_named t left || is_among t new) ≡ (is_named t all || is_among t old)

or_later : (a b x : Bool) → (a || (b || x)) ≡ ((b || a) || x)
or_later true true x = refl
or_later true false x = refl
or_later false true x = refl
or_later false false x = refl

pub names_more : (all left : List Pair) (name value : List ℕ) (old mid new : List (List ℕ)) → AddsNames all ((name, value) ∷ left) old mid
    → ((t : List ℕ) → is_among t new ≡ (bytes_eq name t || is_among t mid)) → AddsNames all left old new
names_more all left name value old mid new before more =
    λ t. ap (λ b. is_named t left || b) (more t) ∙ or_later (is_named t left) (bytes_eq name t) (is_among t mid) ∙ before t

-- an empty value is no text
empty_value : (value t : List ℕ) → value ≡ [] → (bytes_eq value t && not (length t == 0)) ≡ false
empty_value value [] none = ap (λ v. bytes_eq v [] && false) none
empty_value value (x ∷ t) none = ap (λ v. bytes_eq v (x ∷ t) && not (length (x ∷ t) == 0)) none

pub no_value : (value t : List ℕ) (x : Bool) → value ≡ [] → x ≡ ((bytes_eq value t && not (length t == 0)) || x)
no_value value t x none = ap (λ b. b || x) (sym (empty_value value t none))

full : (x : ℕ) (t : List ℕ) → not (length (x ∷ t) == 0) ≡ true
full x t = grind (arith, nat_tests)

and_true : (a b : Bool) → b ≡ true → a ≡ (a && b)
and_true true b is = sym is
and_true false b is = refl

pub some_value : (value t : List ℕ) (x : Bool) → (value ≡ [] → ⊥) → (bytes_eq value t || x) ≡ ((bytes_eq value t && not (length t == 0)) || x)
some_value value t x some = ap (λ b. b || x) (by t (bytes_eq value t) refl) where
  by : (u : List ℕ) (b : Bool) → bytes_eq value u ≡ b → b ≡ (b && not (length u == 0))
  by [] true same = absurd (some ((bytes_eq-Decides value []).0 same))
  by (y ∷ u) true same = sym (full y u)
  by u false same = refl

-- ---- streams, one after another

-- so many first streams are looked at
abbrev pub AddsFirst : Asked → List Row → List StreamKey → List (List ℕ) → List (List ℕ) → Type 0
AddsFirst asked rows keys old new =
    (text : List ℕ) (told : StreamKey → Bool) → Tells asked text told → is_among text new ≡ (list_any (tells_here told (count_of rows)) keys || is_among text old)

and_regroup : (c a b t : Bool) → (c && (a && (b && t))) ≡ ((c && (a && b)) && t)
and_regroup true true b t = refl
and_regroup true false b t = refl
and_regroup false a b t = refl

-- whether a listed stream tells the text
tells_as : (asked : Asked) (rows : List Row) (text : List ℕ) (told : StreamKey → Bool) → Tells asked text told → (tenant : List ℕ) (m : LabelMap) → IsLabelSet m
    → (front : ℕ) → front ≡ count_of rows (stream_of tenant m)
    → tells_here told (count_of rows) (stream_of tenant m) ≡ ((not (front == 0) && (bytes_eq tenant asked.tenant && selects asked.ms m)) && tells asked.facet m text)
tells_as asked rows text told are tenant m set front counted =
    (λ i. not (sym counted i == 0) && are tenant m set i)
    ∙ and_regroup (not (front == 0)) (bytes_eq tenant asked.tenant) (selects asked.ms m) (tells asked.facet m text)

or_none : (b : Bool) → (b || false) ≡ b
or_none true = refl
or_none false = refl

or_group : (a b x : Bool) → (a || (b || x)) ≡ ((a || b) || x)
or_group true b x = refl
or_group false b x = refl

any_suc : (p : StreamKey → Bool) (keys : List StreamKey) (n : ℕ) (s : StreamKey) → slice_get keys n ≡ Some s → list_any p (take (suc n) keys) ≡ (list_any p (take n keys) || p s)
any_suc p [] n s is = absurd cc
any_suc p (y ∷ keys) zero s is = let same : y ≡ s = cc in or_none (p y) ∙ ap p same
any_suc p (y ∷ keys) (suc n) s is = ap (λ b. p y || b) (any_suc p keys n s is) ∙ or_group (p y) (list_any p (take n keys)) (p s)

any_next : (p : StreamKey → Bool) (keys : List StreamKey) (n : ℕ) (s : StreamKey) → slice_get keys n ≡ Some s → list_any p (take (n + 1) keys) ≡ (list_any p (take n keys) || p s)
any_next p keys n s is =
    let next : n + 1 ≡ suc n = omega arith in
    ap (λ k. list_any p (take k keys)) next ∙ any_suc p keys n s is

pub asked_next : (asked : Asked) (rows : List Row) (keys : List StreamKey) (n : ℕ) (tenant : List ℕ) (m : LabelMap) (front : ℕ) (old mid new : List (List ℕ))
    → slice_get keys n ≡ Some (stream_of tenant m) → IsLabelSet m → front ≡ count_of rows (stream_of tenant m)
    → (not (front == 0) && (bytes_eq tenant asked.tenant && selects asked.ms m)) ≡ true
    → AddsFirst asked rows (take n keys) old mid → ((t : List ℕ) → is_among t new ≡ (tells asked.facet m t || is_among t mid))
    → AddsFirst asked rows (take (n + 1) keys) old new
asked_next asked rows keys n tenant m front old mid new is set counted asks before more = λ text told are.
    let p = tells_here told (count_of rows) in
    let here : p (stream_of tenant m) ≡ tells asked.facet m text =
    tells_as asked rows text told are tenant m set front counted ∙ ap (λ b. b && tells asked.facet m text) asks in
    more text
    ∙ (λ i. sym here i || before text told are i)
    ∙ or_later (p (stream_of tenant m)) (list_any p (take n keys)) (is_among text old)
    ∙ ap (λ b. b || is_among text old) (sym (any_next p keys n (stream_of tenant m) is))

pub unasked_next : (asked : Asked) (rows : List Row) (keys : List StreamKey) (n : ℕ) (tenant : List ℕ) (m : LabelMap) (front : ℕ) (old new : List (List ℕ))
    → slice_get keys n ≡ Some (stream_of tenant m) → IsLabelSet m → front ≡ count_of rows (stream_of tenant m)
    → (not (front == 0) && (bytes_eq tenant asked.tenant && selects asked.ms m)) ≡ false
    → AddsFirst asked rows (take n keys) old new → AddsFirst asked rows (take (n + 1) keys) old new
unasked_next asked rows keys n tenant m front old new is set counted asks before = λ text told are.
    let p = tells_here told (count_of rows) in
    let here : p (stream_of tenant m) ≡ false =
    tells_as asked rows text told are tenant m set front counted ∙ ap (λ b. b && tells asked.facet m text) asks in
    before text told are
    ∙ ap (λ b. b || is_among text old) (sym (any_next p keys n (stream_of tenant m) is ∙ ap (λ b. list_any p (take n keys) || b) here ∙ or_none (list_any p (take n keys))))

-- ---- all of them

none_of : (b : Bool) → false ≡ (b && false)
none_of true = refl
none_of false = refl

a_row_more : (r : Row) (own : List Row) → not (length (r ∷ own) == 0) ≡ true
a_row_more r own = grind (arith, nat_tests)

tells_more : (told : StreamKey → Bool) (s : StreamKey) (r : Row) (own : List Row) (t : Bool) → t ≡ told s
    → some_tells told own ≡ (not (length own == 0) && told s) → (t || some_tells told own) ≡ (not (length (r ∷ own) == 0) && told s)
tells_more told s r own true is rest = λ i. sym (a_row_more r own) i && is i
tells_more told s r own false is rest =
    rest ∙ ap (λ b. not (length own == 0) && b) (sym is) ∙ sym (none_of (not (length own == 0)))
    ∙ (λ i. sym (a_row_more r own) i && is i)

-- some row of a stream tells a text where there is one, and the stream tells it
one_tells : (told : StreamKey → Bool) (s : StreamKey) (rows : List Row) → some_tells told (rows_of s rows) ≡ (not (length (rows_of s rows) == 0) && told s)
one_tells told s [] = refl
one_tells told s (r ∷ rows) = by (same_stream r.stream s) refl (one_tells told s rows) where
  by : (b : Bool) → same_stream r.stream s ≡ b → some_tells told (rows_of s rows) ≡ (not (length (rows_of s rows) == 0) && told s)
      → some_tells told (cond b (r ∷ rows_of s rows) (rows_of s rows)) ≡ (not (length (cond b (r ∷ rows_of s rows) (rows_of s rows)) == 0) && told s)
  by true is rest = tells_more told s r (rows_of s rows) (told r.stream) (ap told (same_key r.stream s is)) rest
  by false is rest = rest

some_flat : (told : StreamKey → Bool) (rows : List Row) (keys : List StreamKey) → some_tells told (flat_map (λ s. rows_of s rows) keys) ≡ list_any (tells_here told (count_of rows)) keys
some_flat told rows [] = refl
some_flat told rows (s ∷ keys) =
    list_any-append (λ (r : Row). told r.stream) (rows_of s rows) (flat_map (λ s. rows_of s rows) keys)
    ∙ (λ i. one_tells told s rows i || some_flat told rows keys i)

-- where all streams were looked at, all rows were
pub adds_all : (asked : Asked) (rows : List Row) (keys : List StreamKey) (old new : List (List ℕ)) → flat_map (λ s. rows_of s rows) keys ≡ rows → AddsFirst asked rows keys old new → AddsCatalog asked rows old new
adds_all asked rows keys old new whole adds = λ text told are.
    adds text told are ∙ ap (λ b. b || is_among text old) (sym (some_flat told rows keys) ∙ ap (some_tells told) whole)
