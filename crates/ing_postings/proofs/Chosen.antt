-- What the walks over matchers and over places have found so far.
use Rattle.std.proofs.Common.{◌≡◌, ℕ, ◌+◌, ◌<◌, ◌≤◌, length, get_or, take, All, Any, Option, Some, None, IfSome, IfNone, MatchOption, ◌⊎◌, inl, inr, true, false, List, [], ◌∷◌, ◌++◌, Bor, sym, ap, subst, ◌∙◌, arith}
use Rattle.std.specs.List.{filter_map, slice_get, cons_option}
use Rattle.std.proofs.lemmas.List.{take_more, map-append}
use Rattle.std.proofs.lemmas.List.Elements.{All-more, All-weaker, filter_map-append}
use Rattle.ing_labels.specs.Selectors.{Match, asks_for_value}
use Rattle.ing_postings.specs.declared.postings.Listed.{Listed}
use Rattle.ing_postings.specs.Streams.{numbers_of}
use Rattle.ing_postings.specs.Index.{Index, list_at, Narrows, IsNoLonger}

-- one more place
pub numbers_more : (streams : List Listed) (places : List ℕ) (i : ℕ) (s : Listed) → i < length places → slice_get streams (get_or places i 0) ≡ Some s → numbers_of (filter_map (slice_get streams) (take (i + 1) places)) ≡ numbers_of (filter_map (slice_get streams) (take i places)) ++ s.number ∷ []
numbers_more streams places i s within here =
    ap (λ ps. numbers_of (filter_map (slice_get streams) ps)) (take_more places i 0 within)
    ∙ ap numbers_of (filter_map-append (slice_get streams) (take i places) (get_or places i 0 ∷ []))
    ∙ map-append (λ t. t.number) (filter_map (slice_get streams) (take i places)) (filter_map (slice_get streams) (get_or places i 0 ∷ []))
    ∙ ap (λ o. numbers_of (filter_map (slice_get streams) (take i places)) ++ numbers_of (cons_option o [])) here

-- the shortest list that the first n matchers name
pub record IsShortest (index : Index) (ms : List Match) (n : ℕ) (o : Option (Bor (List ℕ))) : Type 0 where
  pub named : IfSome o (λ list. Any (Narrows index list.now) ms)
  pub shortest : IfSome o (λ list. All (IsNoLonger index list.now) (take n ms))
  pub none : IfNone o (All (λ m. asks_for_value m ≡ false) (take n ms))

-- a matcher that asks for no value
pub shortest_skips : (index : Index) (ms : List Match) (n : ℕ) (o : Option (Bor (List ℕ))) (m : Match) → IsShortest index ms n o → n < length ms → m ≡ get_or ms n m → asks_for_value m ≡ false → IsShortest index ms (n + 1) o
shortest_skips index ms n None m before within here asks = record {
  named = before.named;
  shortest = before.shortest;
  none = All-more (λ x. asks_for_value x ≡ false) ms n m within before.none (subst (λ x. asks_for_value x ≡ false) here asks);
}
shortest_skips index ms n (Some l) m before within here asks = record {
  named = before.named;
  shortest = All-more (IsNoLonger index l.now) ms n m within before.shortest (subst (IsNoLonger index l.now) here (λ h. absurd (cc (sym h ∙ asks))));
  none = before.none;
}

-- one that names a list
pub shortest_more : (index : Index) (ms : List Match) (n : ℕ) (o : Option (Bor (List ℕ))) (m : Match) (list next : Bor (List ℕ)) → IsShortest index ms n o → n < length ms → m ≡ get_or ms n m → asks_for_value m ≡ true → list.now ≡ list_at index m.name m.value → MatchOption o (next.now ≡ list.now) (λ l. (next.now ≡ l.now) ⊎ (next.now ≡ list.now)) → length next.now ≤ length list.now → IfSome o (λ l. length next.now ≤ length l.now) → IsShortest index ms (n + 1) (Some next)
shortest_more index ms n o m list next before within here asks is one fits fits_before =
    let new : next.now ≡ list.now → Any (Narrows index next.now) ms = λ e. (n, m, within, sym here, (asks, e ∙ is)) in
    let last : IsNoLonger index next.now (get_or ms n m) = subst (IsNoLonger index next.now) here (λ _. subst (λ l. length next.now ≤ length l) is fits) in
    record {
      named = elim o as (λ o. MatchOption o (next.now ≡ list.now) (λ l. (next.now ≡ l.now) ⊎ (next.now ≡ list.now)) → IfSome o (λ l. Any (Narrows index l.now) ms) → Any (Narrows index next.now) ms) [
        | None ↦ λ one h. new one
        | Some l ↦ λ one h. elim one as (λ _. Any (Narrows index next.now) ms) [ inl e ↦ subst (λ x. Any (Narrows index x) ms) (sym e) h | inr e ↦ new e ]
      ] one before.named;
      shortest = All-more (IsNoLonger index next.now) ms n m within (
          elim o as (λ o. IfSome o (λ l. length next.now ≤ length l.now) → IfSome o (λ l. All (IsNoLonger index l.now) (take n ms)) → IfNone o (All (λ m. asks_for_value m ≡ false) (take n ms)) → All (IsNoLonger index next.now) (take n ms)) [
            | None ↦ λ fits some none. All-weaker (λ x. asks_for_value x ≡ false) (IsNoLonger index next.now) (λ x h g. absurd (cc (sym g ∙ h))) (take n ms) none
            | Some l ↦ λ fits some none. All-weaker (IsNoLonger index l.now) (IsNoLonger index next.now) (λ x h g. let k = h g in omega arith) (take n ms) some
          ] fits_before before.shortest before.none) last;
      none = tt;
    }
