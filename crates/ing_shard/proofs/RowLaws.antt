-- The rows of one stream of a shard are those of its part, and what a snapshot has of picked streams is of streams of the shard's own.
use Rattle.std.proofs.Common.{◌≡◌, ℕ, zero, suc, Bool, true, false, cond, List, [], ◌∷◌, ◌++◌, filter, map, Some, refl, ap, sym, ◌∙◌, append-nil, length, subst, All, IsPermutation, Result, Ok, Err, bytes_eq, slice_get}
use Rattle.std.specs.Prelude.{IfOk}
use Rattle.std.specs.List.{flat_map}
use Rattle.std.proofs.lemmas.Bool.{and_parts}
use Rattle.std.proofs.lemmas.List.Elements.{All-append, All-cons, All-head, All-nil, All-tail, filter-append}
use Rattle.std.proofs.lemmas.List.Sorted.{All-permutation, IsPermutation-sym}
use Rattle.std.proofs.lemmas.Option.{same_Some}
use Rattle.std.proofs.lemmas.Slice.Eq.{bytes_eq-Decides}
use Rattle.ing_labels.specs.Canonical.{canonical_of}
use Rattle.ing_labels.specs.Labels.{IsLabelSet}
use Rattle.ing_labels.specs.Selectors.{Match, selects}
use Rattle.ing_parts.specs.declared.found.Found.{Found}
use Rattle.ing_parts.specs.declared.snapshot.Part.{Part}
use Rattle.ing_parts.specs.declared.snapshot.Snapshot.{Snapshot}
use Rattle.ing_parts.specs.Parts.{HasRows, ListsRows, found_among, found_at, standing}
use Rattle.ing_rows.specs.Placement.{shard_of}
use Rattle.ing_rows.specs.Rows.{StreamKey, Row, count_of, rows_of, same_stream}
use Rattle.ing_shard.specs.Contents.{AreOwn}
use Rattle.ing_shard.specs.OneStream.{Stream}
use Rattle.ing_shard.specs.Picked.{Picks}
use Rattle.ing_shard.specs.Streams.{AreDistinct, IsKept, key_of, part_of, whole}
use Rattle.ing_shard.proofs.CountLaws.{filter_eq, filter_false, filter_true, same_self}
use Rattle.ing_shard.proofs.Parts.{all_rows}
use Rattle.ing_shard.proofs.PositionLaws.{same_flip}
use Rattle.ing_shard.proofs.WholeLaws.{AreOthers, IsOther, others_rows}

-- ---- the rows of one stream

own_part : (st : Stream) → rows_of (key_of st) (part_of st).rows ≡ (part_of st).rows
own_part st =
    let s = key_of st in
    let p : Row → Bool = λ r. same_stream r.stream s in
    let mine = (part_of st).rows in
    filter_eq p (λ r. true) mine (all_rows s (λ r. p r ≡ true) (λ first block place e. same_self s) st.chunks) ∙ filter_true mine

first_own : (st : Stream) (sts : List Stream) → AreOthers (key_of st) sts → rows_of (key_of st) (whole (st ∷ sts)).rows ≡ (part_of st).rows
first_own st sts others =
    let s = key_of st in
    let p : Row → Bool = λ r. same_stream r.stream s in
    let mine = (part_of st).rows in
    let own : filter p mine ≡ mine = own_part st in
    let none : filter p (whole sts).rows ≡ [] = filter_eq p (λ r. false) (whole sts).rows (others_rows s sts others) ∙ filter_false (whole sts).rows in
    filter-append p mine (whole sts).rows ∙ (λ i. own i ++ none i) ∙ append-nil mine

later_own : (st x : Stream) (sts : List Stream) → IsOther (key_of x) st → rows_of (key_of st) (whole (x ∷ sts)).rows ≡ rows_of (key_of st) (whole sts).rows
later_own st x sts other =
    let s = key_of st in
    let p : Row → Bool = λ r. same_stream r.stream s in
    let others = (part_of x).rows in
    let none : filter p others ≡ [] =
    filter_eq p (λ r. false) others (all_rows (key_of x) (λ r. p r ≡ false) (λ first block place e. same_flip s (key_of x) other) x.chunks) ∙ filter_false others in
    filter-append p others (whole sts).rows ∙ ap (λ l. l ++ rows_of s (whole sts).rows) none

-- of these rows, those of the stream are its part's
abbrev OwnIn : List Row → Stream → Type 0
OwnIn rows st = rows_of (key_of st) rows ≡ (part_of st).rows

own_behind : (x : Stream) (all sts : List Stream) → AreOthers (key_of x) sts → All (OwnIn (whole all).rows) sts → All (OwnIn (whole (x ∷ all)).rows) sts
own_behind x all [] others h = All-nil (OwnIn (whole (x ∷ all)).rows)
own_behind x all (st ∷ sts) others h =
    All-cons (OwnIn (whole (x ∷ all)).rows) st sts
    (later_own st x all (All-head (IsOther (key_of x)) st sts others) ∙ All-head (OwnIn (whole all).rows) st sts h)
    (own_behind x all sts (All-tail (IsOther (key_of x)) st sts others) (All-tail (OwnIn (whole all).rows) st sts h))

each_own : (sts : List Stream) → AreDistinct sts → All (OwnIn (whole sts).rows) sts
each_own [] distinct = All-nil (OwnIn (whole []).rows)
each_own (st ∷ sts) distinct = All-cons (OwnIn (whole (st ∷ sts)).rows) st sts (first_own st sts distinct.0) (own_behind st sts sts distinct.0 (each_own sts distinct.1))

in_turn : (rows : List Row) (sts : List Stream) → All (OwnIn rows) sts → flat_map (λ s. rows_of s rows) (map key_of sts) ≡ (whole sts).rows
in_turn rows [] h = refl
in_turn rows (st ∷ sts) h = λ i. All-head (OwnIn rows) st sts h i ++ in_turn rows sts (All-tail (OwnIn rows) st sts h) i

-- one stream after another, they are all
pub all_listed : (sts : List Stream) → AreDistinct sts → flat_map (λ s. rows_of s (whole sts).rows) (map key_of sts) ≡ (whole sts).rows
all_listed sts distinct = in_turn (whole sts).rows sts (each_own sts distinct)

pub at_number : (P : Stream → Type 0) (sts : List Stream) (i : ℕ) (st : Stream) → All P sts → slice_get sts i ≡ Some st → P st
at_number P [] i st h is = absurd (cc)
at_number P (x ∷ sts) zero st h is = subst P (same_Some x st is) (All-head P x sts h)
at_number P (x ∷ sts) (suc i) st h is = at_number P sts i st (All-tail P x sts h) is

-- what is listed of the stream of a number is its rows
pub listed_rows : {R : Type 0} (sts : List Stream) (i : ℕ) (st : Stream) (tenant name : List ℕ) (parts : List (Part R)) → AreDistinct sts → slice_get sts i ≡ Some st
    → tenant ≡ st.tenant → name ≡ canonical_of st.labels → ListsRows (part_of st).rows [] parts
    → IsPermutation (found_among parts) (map found_at (rows_of (record { tenant = tenant; name = name }) (whole sts).rows))
listed_rows sts i st tenant name parts distinct is tenants named h =
    let key : ◌≡◌ {A = StreamKey} (record { tenant = tenant; name = name }) (key_of st) = λ j. record { tenant = tenants j; name = named j } in
    let own : rows_of (record { tenant = tenant; name = name }) (whole sts).rows ≡ (part_of st).rows =
    ap (λ s. rows_of s (whole sts).rows) key ∙ at_number (OwnIn (whole sts).rows) sts i st (each_own sts distinct) is in
    subst (λ rows. IsPermutation (found_among parts) (map found_at rows)) (sym own) h.same

-- and it has as many as its front
pub front_rows : (sts : List Stream) (i : ℕ) (st : Stream) (tenant name : List ℕ) (front : ℕ) → AreDistinct sts → All IsKept sts → slice_get sts i ≡ Some st
    → tenant ≡ st.tenant → name ≡ canonical_of st.labels → front ≡ st.chunks.memory.next
    → front ≡ count_of (whole sts).rows (record { tenant = tenant; name = name })
front_rows sts i st tenant name front distinct kept is tenants named counted =
    let key : ◌≡◌ {A = StreamKey} (record { tenant = tenant; name = name }) (key_of st) = λ j. record { tenant = tenants j; name = named j } in
    let own : rows_of (record { tenant = tenant; name = name }) (whole sts).rows ≡ (part_of st).rows =
    ap (λ s. rows_of s (whole sts).rows) key ∙ at_number (OwnIn (whole sts).rows) sts i st (each_own sts distinct) is in
    let facts : count_of (part_of st).rows (key_of st) ≡ st.chunks.memory.next = ap (λ f. f.count) (at_number IsKept sts i st kept is).facts in
    counted ∙ sym facts ∙ ap length (own_part st ∙ sym own)

-- ---- streams of the shard's own

-- what holds of each stream holds of each row's
streams_have : (Q : StreamKey → Type 0) (sts : List Stream) → All (λ st. Q (key_of st)) sts → All (λ r. Q r.stream) (whole sts).rows
streams_have Q [] all = All-nil (λ (r : Row). Q r.stream)
streams_have Q (st ∷ sts) all =
    let one = All-head (λ (x : Stream). Q (key_of x)) st sts all in
    All-append (λ (r : Row). Q r.stream) (part_of st).rows (whole sts).rows
    (all_rows (key_of st) (λ r. Q r.stream) (λ first block place e. one) st.chunks)
    (streams_have Q sts (All-tail (λ (x : Stream). Q (key_of x)) st sts all))

front_all : (P : Found → Type 0) (xs ys : List Found) → All P (xs ++ ys) → All P xs
front_all P [] ys h = All-nil P
front_all P (x ∷ xs) ys h = All-cons P x xs (All-head P x (xs ++ ys) h) (front_all P xs ys (All-tail P x (xs ++ ys) h))

module _ (tenant : List ℕ) (picked : StreamKey → Bool) where
  one_picked : (P : Found → Type 0) (r : Row) (rest : List Row) (b : Bool) → (b ≡ true → P (found_at r)) → All P (map found_at rest) → All P (map found_at (cond b (r ∷ rest) rest))
  one_picked P r rest true has all = All-cons P (found_at r) (map found_at rest) (has refl) all
  one_picked P r rest false has all = all

  picked_have : (P : Found → Type 0) (rows : List Row) → All (λ r. picked r.stream ≡ true → P (found_at r)) rows → All P (map found_at (filter (λ r. picked r.stream) rows))
  picked_have P [] h = All-nil P
  picked_have P (r ∷ rows) h =
      let Q : Row → Type 0 = λ x. picked x.stream ≡ true → P (found_at x) in
      one_picked P r (filter (λ x. picked x.stream) rows) (picked r.stream) (All-head Q r rows h) (picked_have P rows (All-tail Q r rows h))

  module _ (shards number : ℕ) where
    -- it has its place in the shard, if it is picked
    abbrev IsPlaced : StreamKey → Type 0
    IsPlaced s = picked s ≡ true → shard_of tenant s.name shards ≡ number

    streams_placed : (ms : List Match) → Picks tenant ms picked → (sts : List Stream) → All (λ st. IsLabelSet st.labels) sts → AreOwn shards number (map key_of sts) → All (λ st. IsPlaced (key_of st)) sts
    streams_placed ms picks [] labelled own = All-nil (λ (st : Stream). IsPlaced (key_of st))
    streams_placed ms picks (st ∷ sts) labelled own =
        let set = All-head (λ (x : Stream). IsLabelSet x.labels) st sts labelled in
        let here : IsPlaced (key_of st) = λ is.
        let both = and_parts (bytes_eq st.tenant tenant) (selects ms st.labels) (sym (picks st.tenant st.labels set) ∙ is) in
        subst (λ t. shard_of t (canonical_of st.labels) shards ≡ number) ((bytes_eq-Decides st.tenant tenant).0 both.0) (own zero (key_of st) refl).placed in
        All-cons (λ (x : Stream). IsPlaced (key_of x)) st sts here
        (streams_placed ms picks sts (All-tail (λ (x : Stream). IsLabelSet x.labels) st sts labelled) (λ j. own (suc j)))

-- what stands in a snapshot of the streams that are picked is of the shard's own streams
pub all_placed : {R E : Type 0} (tenant : List ℕ) (shards number : ℕ) (ms : List Match) (picked : StreamKey → Bool) → Picks tenant ms picked → (sts : List Stream) → All (λ st. IsLabelSet st.labels) sts
    → AreOwn shards number (map key_of sts)
    → (r : Result (Snapshot R) E) → IfOk r (λ s. (p : StreamKey → Bool) → Picks tenant ms p → HasRows (filter (λ r. p r.stream) (whole sts).rows) s)
    → IfOk r (λ s. All (λ f. shard_of tenant f.name shards ≡ number) (standing s))
all_placed tenant shards number ms picked picks sts labelled own (Err e) has = tt
all_placed tenant shards number ms picked picks sts labelled own (Ok s) has =
    let P : Found → Type 0 = λ f. shard_of tenant f.name shards ≡ number in
    let found = map found_at (filter (λ (r : Row). picked r.stream) (whole sts).rows) in
    let drawn = (has picked picks).drawn in
    let all : All P found =
    picked_have tenant picked P (whole sts).rows (streams_have (IsPlaced tenant picked shards number) sts (streams_placed tenant picked shards number ms picks sts labelled own)) in
    front_all P (standing s) drawn.others (All-permutation P found (standing s ++ drawn.others) (IsPermutation-sym (standing s ++ drawn.others) found drawn.same) all)
