-- What a query finds of rows, from what was answered accepted.
use Rattle.std.proofs.Common.{◌≡◌, ℕ, Bool, true, false, cond, ◌&&◌, List, [], ◌∷◌, append-nil, filter, map, refl, ap, ◌∙◌, subst}
use Rattle.std.specs.Prelude.{IsPermutation}
use Rattle.std.proofs.lemmas.List.Concat.{flat_map-cons}
use Rattle.std.proofs.lemmas.List.Sorted.{IsPermutation-map, IsPermutation-sym, IsPermutation-trans}
use Rattle.ing_parts.specs.declared.found.Found.{Found}
use Rattle.ing_rows.specs.declared.order.Order.{Order}
use Rattle.ing_parts.specs.declared.snapshot.Snapshot.{Snapshot}
use Rattle.ing_parts.specs.Answers.{IsAnswer, StandFor}
use Rattle.ing_parts.specs.Parts.{HasRangeOf, HasRows, asked, found_at, is_within, wanted, within}
use Rattle.ing_parts.specs.Questions.{Question}
use Rattle.ing_query.specs.Answers.{wanted_in}
use Rattle.ing_rows.specs.declared.place.Place.TheVariants.{Head}
use Rattle.ing_rows.specs.Kept.{Numbered, numbered}
use Rattle.ing_rows.specs.Rows.{StreamKey, Row}
use Rattle.ing_world.specs.Turns.{found_told}

-- what is wanted of one snapshot
pub one_wanted : {R : Type 0} (s : Snapshot R) → wanted_in (s ∷ []) ≡ wanted s
one_wanted s = flat_map-cons wanted s [] ∙ append-nil (wanted s)

-- an answer does not depend on the order of what is asked
answer_of : (order : Order) (limit : ℕ) (xs ys answer : List Found) → IsPermutation xs ys → IsAnswer order limit xs answer → IsAnswer order limit ys answer
answer_of order limit xs ys answer same is =
    record { sorted = is.sorted; same = IsPermutation-trans ys xs is.sorted (IsPermutation-sym xs ys same) is.same; in_order = is.in_order; cut = is.cut }

-- an accepted entry as a row that stands anywhere
row_told : Numbered → Row
row_told n = record { stream = n.stream; number = n.number; entry = n.entry; chunk = 0; block = 0; place = Head }

module _ (picked : StreamKey → Bool) (q : Question) where
  -- the row is asked for
  is_asked : Row → Bool
  is_asked r = picked r.stream && is_within q (found_at r)

  -- rows are asked for wherever they stand
  rows_found : (rows : List Row) → map found_at (filter is_asked (map row_told (map numbered rows))) ≡ within q (map found_at (filter (λ r. picked r.stream) rows))
  unfolding row_told is_asked
  rows_found [] = refl
  rows_found (r ∷ rows) = by (picked r.stream) (rows_found rows) where
    inside : (b : Bool) → map found_at (filter is_asked (map row_told (map numbered rows))) ≡ (within q (map found_at (filter (λ x. picked x.stream) rows))) → map found_at (cond b (row_told (numbered r) ∷ (filter is_asked (map row_told (map numbered rows)))) (filter is_asked (map row_told (map numbered rows)))) ≡ cond b (found_at r ∷ (within q (map found_at (filter (λ x. picked x.stream) rows)))) (within q (map found_at (filter (λ x. picked x.stream) rows)))
    inside true is = ap (λ l. found_at r ∷ l) is
    inside false is = is

    by : (b : Bool) → map found_at (filter is_asked (map row_told (map numbered rows))) ≡ (within q (map found_at (filter (λ x. picked x.stream) rows))) → map found_at (cond (b && is_within q (found_at r)) (row_told (numbered r) ∷ (filter is_asked (map row_told (map numbered rows)))) (filter is_asked (map row_told (map numbered rows))))
        ≡ within q (map found_at (cond b (r ∷ filter (λ x. picked x.stream) rows) (filter (λ x. picked x.stream) rows)))
    by true is = inside (is_within q (found_at r)) is
    by false is = is

  -- and so is what was accepted
  told_found : (ns : List Numbered) → map found_at (filter is_asked (map row_told ns)) ≡ within q (map found_told (filter (λ n. picked n.stream) ns))
  unfolding row_told is_asked
  told_found [] = refl
  told_found (n ∷ ns) = by (picked n.stream) (told_found ns) where
    inside : (b : Bool) → map found_at (filter is_asked (map row_told ns)) ≡ (within q (map found_told (filter (λ m. picked m.stream) ns))) → map found_at (cond b (row_told n ∷ (filter is_asked (map row_told ns))) (filter is_asked (map row_told ns))) ≡ cond b (found_told n ∷ (within q (map found_told (filter (λ m. picked m.stream) ns)))) (within q (map found_told (filter (λ m. picked m.stream) ns)))
    inside true is = ap (λ l. found_told n ∷ l) is
    inside false is = is

    by : (b : Bool) → map found_at (filter is_asked (map row_told ns)) ≡ (within q (map found_told (filter (λ m. picked m.stream) ns))) → map found_at (cond (b && is_within q (found_told n)) (row_told n ∷ (filter is_asked (map row_told ns))) (filter is_asked (map row_told ns)))
        ≡ within q (map found_told (cond b (n ∷ filter (λ m. picked m.stream) ns) (filter (λ m. picked m.stream) ns)))
    by true is = inside (is_within q (found_told n)) is
    by false is = is

  module _ (no_order : (test : Row → Bool) (rows others : List Row) → IsPermutation rows others → IsPermutation (map found_at (filter test rows)) (map found_at (filter test others)))
      (answered : (order : Order) (limit : ℕ) (some all answer : List Found) → StandFor order limit some all → IsAnswer order limit some answer → IsAnswer order limit all answer) where
    found_as_told : (rows : List Row) (ns : List Numbered) → IsPermutation (map numbered rows) ns
        → IsPermutation (within q (map found_at (filter (λ r. picked r.stream) rows))) (within q (map found_told (filter (λ n. picked n.stream) ns)))
    found_as_told rows ns kept =
        subst (λ l. IsPermutation l (within q (map found_told (filter (λ n. picked n.stream) ns)))) (rows_found rows)
        (subst (IsPermutation (map found_at (filter is_asked (map row_told (map numbered rows))))) (told_found ns)
        (no_order is_asked (map row_told (map numbered rows)) (map row_told ns) (IsPermutation-map row_told (map numbered rows) ns kept)))

    -- the answer from a snapshot is that of what was accepted
    pub answer_told : {R : Type 0} (order : Order) (limit : ℕ) (rows : List Row) (ns : List Numbered) (s : Snapshot R) (found : List Found) → IsPermutation (map numbered rows) ns
        → HasRows (filter (λ r. picked r.stream) rows) s → HasRangeOf q s → s.best.order ≡ order → s.best.limit ≡ limit → IsAnswer order limit (wanted s) found
        → IsAnswer order limit (within q (map found_told (filter (λ n. picked n.stream) ns))) found
    answer_told order limit rows ns s found kept has range same_order same_limit answer =
        let all = map found_at (filter (λ (r : Row). picked r.stream) rows) in
        let stand : StandFor order limit (wanted s) (within (asked s) all) =
        subst (λ o. StandFor o limit (wanted s) (within (asked s) all)) same_order (subst (λ n. StandFor s.best.order n (wanted s) (within (asked s) all)) same_limit has.stand) in
        let ranged : StandFor order limit (wanted s) (within q all) =
        subst (λ l. StandFor order limit (wanted s) l) (λ i. filter (λ f. range f i) all) stand in
        answer_of order limit (within q all) (within q (map found_told (filter (λ n. picked n.stream) ns))) found (found_as_told rows ns kept)
        (answered order limit (wanted s) (within q all) found ranged answer)
