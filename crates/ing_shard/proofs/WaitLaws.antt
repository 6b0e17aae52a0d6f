-- Which chunks of a stream wait to be claimed, in its part and in the whole.
use Rattle.std.proofs.Common.{◌≡◌, ℕ, Bool, true, false, cond, List, [], ◌∷◌, ◌&&◌, not, ◌==◌, ◌<◌, length, filter, get_or, map, option_map, slice_get, Some, refl, ap, sym, ◌∙◌, subst, arith, All}
use Rattle.std.proofs.lemmas.Bool.{true≢false}
use Rattle.std.proofs.lemmas.List.Elements.{All-cons, All-contains, All-head, All-nil, All-tail}
use Rattle.std.proofs.lemmas.Option.{slice_get-map, slice_get_read}
use Rattle.ing_rows.specs.Rows.{StreamKey, Row, State, is_block, is_of_chunk, rows_of_chunk, same_stream}
use Rattle.ing_rows.specs.Claims.{claimable_count, count_outside, is_claimable}
use Rattle.ing_rows.specs.Steps.{ClaimsNone, IsClaimable}
use Rattle.ing_shard.specs.Flights.{Waits}
use Rattle.ing_shard.specs.OneStream.{Stream}
use Rattle.ing_shard.specs.Streams.{key_of, part_of, whole, AreDistinct}
use Rattle.ing_shard.proofs.Alike.{same_refl}
use Rattle.ing_shard.proofs.CountLaws.{middle, same_self}
use Rattle.ing_shard.proofs.FlushLaws.{around_here, key_here}
use Rattle.ing_shard.proofs.SealLaws.{ClaimsOwn, claims_apart}

-- ---- a chunk that can be claimed is counted

-- where none passes, each fails
all_fail : {X : Type 0} (p : X → Bool) (xs : List X) → length (filter p xs) ≡ 0 → All (λ x. p x ≡ false) xs
all_fail p [] none = All-nil (λ x. p x ≡ false)
all_fail p (x ∷ xs) none = by (p x) refl (all_fail p xs) none where
  by : (b : Bool) → p x ≡ b → (length (filter p xs) ≡ 0 → All (λ y. p y ≡ false) xs) → length (cond b (x ∷ filter p xs) (filter p xs)) ≡ 0 → All (λ y. p y ≡ false) (x ∷ xs)
  by true is later some = absurd (omega (arith, some))
  by false is later none = All-cons (λ y. p y ≡ false) x xs is (later none)

abbrev InBlocks : List Row → Type 0
InBlocks rows = All (λ r. is_block r.place ≡ true) rows

-- of a chunk whose rows stand in closed blocks, no row stands elsewhere
none_outside : (s : StreamKey) (chunk : ℕ) (rows : List Row) → InBlocks (rows_of_chunk s chunk rows) → count_outside s chunk rows ≡ 0
none_outside s chunk [] blocks = refl
none_outside s chunk (r ∷ rows) blocks = by (is_of_chunk s chunk r) (none_outside s chunk rows) blocks where
  own : List Row
  own = rows_of_chunk s chunk rows

  outside : List Row
  outside = filter (λ q. is_of_chunk s chunk q && not (is_block q.place)) rows

  by : (b : Bool) → (InBlocks own → length outside ≡ 0) → InBlocks (cond b (r ∷ own) own) → length (cond (b && not (is_block r.place)) (r ∷ outside) outside) ≡ 0
  by true later all =
      ap (λ b. length (cond (not b) (r ∷ outside) outside)) (All-head (λ q. is_block q.place ≡ true) r own all)
      ∙ later (All-tail (λ q. is_block q.place ≡ true) r own all)
  by false later all = later all

counted : (s : StreamKey) (st : State) (chunk : ℕ) (h : IsClaimable st s chunk) → is_claimable s st h.0.0 ≡ true
counted s st chunk h =
    let none : count_outside s h.0.0.chunk st.rows ≡ 0 = ap (λ c. count_outside s c st.rows) h.0.3 ∙ none_outside s chunk st.rows h.1 in
    (λ i. (same_stream (h.0.2 i) s && h.0.4 i) && (none i == 0)) ∙ ap (λ b. (b && true) && true) (same_self s)

-- where none is counted, there is none to claim
none_counted : (s : StreamKey) (st : State) → claimable_count s st ≡ 0 → ClaimsNone s st st
none_counted s st none = record {
  none = λ chunk h. true≢false (sym (counted s st chunk h)
      ∙ All-contains (λ m. is_claimable s st m ≡ false) st.marks h.0.0 (all_fail (is_claimable s st) st.marks none) h.0.1);
  same = same_refl st;
}

-- ---- as many wait in the whole as in a stream's part

module _ (sts : List Stream) (count number : ℕ) (st : Stream) (distinct : AreDistinct sts) (long : count ≡ length sts) (listed : number < count) (read : st ≡ get_or sts number st) where
  as_many : claimable_count (key_of st) (part_of st) ≡ claimable_count (key_of st) (whole sts)
  as_many =
      let split = around_here sts count number st long listed read in
      middle (ClaimsOwn (whole sts)) split.front st split.back (subst (All (ClaimsOwn (whole sts))) split.is (claims_apart sts distinct))

  -- none waits
  pub none_waits : claimable_count (key_of st) (part_of st) ≡ 0 → (s : StreamKey) → slice_get (map key_of sts) number ≡ Some s → ClaimsNone s (whole sts) (whole sts)
  none_waits none s named =
      subst (λ k. ClaimsNone k (whole sts) (whole sts)) (key_here sts number st s (slice_get_read sts count number st long listed read) named)
      (none_counted (key_of st) (whole sts) (sym as_many ∙ none))

  -- one does
  pub one_waits : 0 < claimable_count (key_of st) (part_of st) → Waits number (map key_of sts) (whole sts)
  one_waits some = (
    key_of st,
    slice_get-map key_of sts number ∙ ap (option_map key_of) (slice_get_read sts count number st long listed read),
    subst (λ n. 0 < n) as_many some,
  )
