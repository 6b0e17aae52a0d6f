-- What is read off a shard for a query: the rows of the streams that are picked.
use Rattle.std.proofs.Common.{◌≡◌, ℕ, ◌+◌, Bool, true, false, cond, List, [], ◌∷◌, ◌++◌, length, map, filter, Some, refl, ap, sym, ◌∙◌, append_assoc, length-append, append-nil, reverse, subst, All, IsPermutation, slice_get}
use Rattle.ing_shard.proofs.CountLaws.{filter_const, filter_eq}
use Rattle.std.specs.List.{enumerate_from}
use Rattle.std.proofs.lemmas.Grind.{flat_map-append}
use Rattle.std.proofs.lemmas.List.{reverse-append}
use Rattle.std.proofs.lemmas.List.Elements.{filter-append, All-weaker}
use Rattle.std.proofs.lemmas.List.Sorted.{IsPermutation-append_comm, IsPermutation-append_right, IsPermutation-refl, IsPermutation-trans}
use Rattle.ing_rows.specs.declared.order.Order.{Order}
use Rattle.ing_rows.specs.declared.order.Order.TheVariants.{Forward, Backward}
use Rattle.ing_rows.specs.Rows.{StreamKey, Row}
use Rattle.ing_parts.specs.declared.snapshot.Snapshot.{Snapshot}
use Rattle.ing_parts.specs.Answers.{AreSomeOf, StandFor}
use Rattle.ing_parts.specs.Parts.{AddsRows, HasRows, asked, found_among, found_at, standing, wanted, within}
use Rattle.ing_parts.specs.Questions.{question_view}
use Rattle.ing_shard.specs.OneStream.{Stream}
use Rattle.ing_shard.specs.Picked.{numbers_of_picked}
use Rattle.ing_shard.specs.Snapshots.{in_turn, rows_at, rows_of}
use Rattle.ing_shard.specs.Streams.{key_of, part_of, whole}
use Rattle.ing_shard.proofs.Parts.{all_rows}

-- of rows that are all of one stream, all are picked or none
one_stream : (picked : StreamKey → Bool) (s : StreamKey) (rows : List Row) → All (λ r. r.stream ≡ s) rows → filter (λ r. picked r.stream) rows ≡ cond (picked s) rows []
one_stream picked s rows all =
    filter_eq (λ r. picked r.stream) (λ r. picked s) rows (All-weaker (λ (r : Row). r.stream ≡ s) (λ r. picked r.stream ≡ picked s) (λ r is. ap picked is) rows all)
    ∙ filter_const (picked s) rows

-- the stream behind those in front
behind : (front : List Stream) (st : Stream) (sts : List Stream) → slice_get (front ++ st ∷ sts) (length front) ≡ Some st
behind [] st sts = refl
behind (f ∷ front) st sts = behind front st sts

abbrev picked_from : (StreamKey → Bool) → ℕ → List Stream → List (ℕ × StreamKey)
picked_from picked k sts = filter (λ e. picked e.1) (enumerate_from k (map key_of sts))

abbrev numbers_from : (StreamKey → Bool) → ℕ → List Stream → List ℕ
numbers_from picked k sts = map (λ e. e.0) (picked_from picked k sts)

rows_from : (picked : StreamKey → Bool) (front sts : List Stream) → rows_at (front ++ sts) (numbers_from picked (length front) sts) ≡ filter (λ r. picked r.stream) (whole sts).rows
rows_from picked front [] = refl
rows_from picked front (st ∷ sts) =
    let k = length front in
    let all = front ++ st ∷ sts in
    let others = picked_from picked (k + 1) sts in
    let after = filter (λ (r : Row). picked r.stream) (whole sts).rows in
    let next : length (front ++ st ∷ []) ≡ k + 1 = length-append front (st ∷ []) in
    let rest : rows_at all (map (λ e. e.0) others) ≡ after =
    ap (λ n. rows_at all (numbers_from picked n sts)) (sym next)
    ∙ ap (λ l. rows_at l (numbers_from picked (length (front ++ st ∷ [])) sts)) (sym (append_assoc front (st ∷ []) sts))
    ∙ rows_from picked (front ++ st ∷ []) sts in
    let mine : rows_of (slice_get all k) ≡ (part_of st).rows = ap rows_of (behind front st sts) in
    let chosen : rows_at all (map (λ e. e.0) (cond (picked (key_of st)) ((k, key_of st) ∷ others) others)) ≡ cond (picked (key_of st)) (part_of st).rows [] ++ after =
    elim (picked (key_of st)) as (λ b. rows_at all (map (λ e. e.0) (cond b ((k, key_of st) ∷ others) others)) ≡ cond b (part_of st).rows [] ++ after) [
      | true ↦ ap (λ l. l ++ rows_at all (map (λ e. e.0) others)) mine ∙ ap (λ l. (part_of st).rows ++ l) rest
      | false ↦ rest
    ] in
    chosen
    ∙ ap (λ l. l ++ after) (sym (one_stream picked (key_of st) (part_of st).rows (all_rows (key_of st) (λ r. r.stream ≡ key_of st) (λ first block place e. refl) st.chunks)))
    ∙ sym (filter-append (λ (r : Row). picked r.stream) (part_of st).rows (whole sts).rows)

-- the rows of the streams that are picked are those that are picked of all
pub picked_rows : (picked : StreamKey → Bool) (sts : List Stream) → rows_at sts (numbers_of_picked picked (map key_of sts)) ≡ filter (λ r. picked r.stream) (whole sts).rows
picked_rows picked sts = rows_from picked [] sts

nothing_first : {X : Type 0} (xs ys : List X) → xs ++ ys ≡ [] → xs ≡ []
nothing_first [] ys none = refl
nothing_first (x ∷ xs) ys none = absurd (cc)

-- in whatever order the streams are looked at, their rows are the same
rows_reversed : (sts : List Stream) (numbers : List ℕ) → IsPermutation (rows_at sts numbers) (rows_at sts (reverse numbers))
rows_reversed sts [] = IsPermutation-refl []
rows_reversed sts (n ∷ numbers) =
    let own = rows_of (slice_get sts n) in
    let others = rows_at sts (reverse numbers) in
    let last : rows_at sts (reverse (n ∷ numbers)) ≡ others ++ own =
    ap (rows_at sts) (reverse-append (n ∷ []) numbers)
    ∙ flat_map-append (λ k. rows_of (slice_get sts k)) (reverse numbers) (n ∷ [])
    ∙ ap (λ l. others ++ l) (append-nil own) in
    subst (IsPermutation (rows_at sts (n ∷ numbers))) (sym last)
    (IsPermutation-trans (own ++ rows_at sts numbers) (own ++ others) (others ++ own)
    (IsPermutation-append_right own (rows_at sts numbers) others (rows_reversed sts numbers))
    (IsPermutation-append_comm own others))

pub rows_in_turn : (sts : List Stream) (order : Order) (numbers : List ℕ) → IsPermutation (rows_at sts numbers) (rows_at sts (in_turn order numbers))
rows_in_turn sts Forward numbers = IsPermutation-refl (rows_at sts numbers)
rows_in_turn sts Backward numbers = rows_reversed sts numbers

-- what was added to a snapshot in which nothing stands is of these rows, and stands for all of them that are in its range
pub has_rows : {R : Type 0} (rows : List Row) (old new : Snapshot R) → standing old ≡ [] → wanted old ≡ [] → AddsRows rows old new → HasRows rows new
has_rows rows old new bare none h =
    let all = map found_at rows in
    let stand : StandFor old.best.order old.best.limit (wanted new) (within (asked old) all) = subst (λ l. StandFor old.best.order old.best.limit (wanted new) (l ++ within (asked old) all)) none h.stand in
    let there : within (asked old) all ≡ within (asked new) all = ap (λ q. within (question_view q) all) (sym h.question) in
    record {
      drawn = subst (λ l. AreSomeOf (standing new) (l ++ all)) bare h.drawn;
      kept = subst (AreSomeOf new.best.held) there (subst (λ l. AreSomeOf new.best.held (l ++ within (asked old) all)) (nothing_first old.best.held (found_among old.parts.items) bare) h.kept);
      stand = subst (StandFor new.best.order new.best.limit (wanted new)) there
          (subst (λ o. StandFor o new.best.limit (wanted new) (within (asked old) all)) (sym h.order)
          (subst (λ n. StandFor old.best.order n (wanted new) (within (asked old) all)) (sym h.limit) stand));
    }
