-- What is kept of entries that were offered, and what stands ahead of an entry.
use Rattle.std.proofs.Common.{cond, ◌≡◌, ℕ, zero, suc, ◌+◌, ◌<◌, ◌≤◌, Bool, not, true, false, None, slice_get, List, [], ◌∷◌, ◌++◌, length, get_or, set, refl, ap, sym, subst, arith}
use Rattle.std.specs.List.Sorted.{IsPermutation}
use Rattle.std.proofs.lemmas.List.Sums.{sum_by-cons}
use Rattle.std.proofs.lemmas.List.{get_or_default}
use Rattle.std.proofs.lemmas.List.Sorted.{IsPermutation-append_left, IsPermutation-sym, IsPermutation-to_front, IsPermutation-trans, sum_by-IsPermutation}
use Rattle.ing_parts.specs.declared.found.Found.{Found}
use Rattle.ing_rows.specs.declared.order.Order.{Order}
use Rattle.ing_rows.specs.declared.order.Order.TheVariants.{Forward, Backward}
use Rattle.ing_parts.specs.Answers.{BestState, IsFrom, IsPast, Offers, PassesOver, precedes}
use Rattle.ing_parts.specs.Kept.{IsHeap, ahead}
use Rattle.ing_parts.proofs.HeapLaws.{top_is_last}
use Rattle.ing_parts.proofs.Reordered.{first_two}
use Rattle.ing_parts.proofs.SomeLaws.{some_alike, some_first}
use Rattle.ing_parts.proofs.StandLaws.{is_first, precedes_is_order, stand_ahead, stand_alike, stand_through}

-- ---- stamps in the order

pub past_precedes : (order : Order) (g f : Found) → IsPast order g.entry.stamp f.entry.stamp → precedes order g f ≡ true
past_precedes Forward g f past = is_first g f past
past_precedes Backward g f past = is_first f g past

pub past_from : (order : Order) (bar from stamp : ℕ) → IsPast order bar from → IsFrom order from stamp → IsPast order bar stamp
past_from Forward bar from stamp past is = omega arith
past_from Backward bar from stamp past is = omega arith

-- ---- how many stand ahead

-- all of those before none of which it stands
all_of_them : (order : Order) (f : Found) (gs : List Found) → ((k : ℕ) (d : Found) → k < length gs → precedes order f (get_or gs k d) ≡ false) → ahead (precedes order) f gs ≡ length gs
all_of_them order f [] none = refl
all_of_them order f (g ∷ gs) none =
    let lt = precedes order in
    let rest : ahead lt f gs ≡ length gs = all_of_them order f gs (λ k d within. none (suc k) d (omega arith)) in
    let first : cond {A = ℕ} (lt f g) 0 1 ≡ 1 = ap (λ b. cond {A = ℕ} b 0 1) (none 0 g (omega arith)) in
    let sum : ahead lt f (g ∷ gs) ≡ cond (lt f g) 0 1 + ahead lt f gs = sum_by-cons (λ x. cond (lt f x) 0 1) g gs in
    omega (arith, rest, first, sum)

-- ---- what is kept

pub failed : (b : Bool) → not b ≡ true → b ≡ false
failed true h = absurd (cc)
failed false h = refl

pub none_first : {X : Type 0} (xs : List X) → None ≡ slice_get xs 0 → length xs ≡ 0
none_first [] h = refl
none_first (x ∷ xs) h = absurd (cc)

-- what has enough ahead of it is passed over
pub passed : (b : BestState) (f : Found) → b.limit ≤ ahead (precedes b.order) f b.held → Offers (f ∷ []) b b
passed b f enough = record { order = refl; limit = refl; drawn = some_first b.held (f ∷ []); stand = stand_ahead b.order b.limit b.held f enough }

-- where none is wanted, each is
pub none_wanted : (b : BestState) (f : Found) → b.limit ≤ 0 → Offers (f ∷ []) b b
none_wanted b f none = passed b f (omega arith)

module _ (b : BestState) (last : Found) (heap : IsHeap (precedes b.order) b.held) (full : b.limit ≤ length b.held) (is : last ≡ get_or b.held 0 last) where
  -- one that does not go before the last of as many as an answer may have
  pub refused : (f : Found) → precedes b.order f last ≡ false → Offers (f ∷ []) b b
  refused f behind =
      let lt = precedes b.order in
      let o = precedes_is_order b.order in
      let none : (k : ℕ) (d : Found) → k < length b.held → lt f (get_or b.held k d) ≡ false = λ k d within.
      let top : lt last (get_or b.held k last) ≡ false = subst (λ g. lt g (get_or b.held k last) ≡ false) (sym is) (top_is_last lt o b.held k last heap within) in
      subst (λ g. lt f g ≡ false) (get_or_default b.held k last d within) (o.chain f last (get_or b.held k last) behind top) in
      let many = all_of_them b.order f b.held none in
      passed b f (omega (arith, many, full))

  -- and each from a stamp on that comes behind that of the last
  pub barred : (from : ℕ) → IsPast b.order last.entry.stamp from → PassesOver from b
  barred from past f at = refused f ((precedes_is_order b.order).one_way last f (past_precedes b.order last f (past_from b.order last.entry.stamp from f.entry.stamp past at)))

-- one more is kept
pub added : (b new : BestState) (f : Found) → new.order ≡ b.order → new.limit ≡ b.limit → IsPermutation (b.held ++ f ∷ []) new.held → Offers (f ∷ []) b new
added b new f order limit same = record {
  order = order;
  limit = limit;
  drawn = some_alike new.held (b.held ++ f ∷ []) (IsPermutation-sym (b.held ++ f ∷ []) new.held same);
  stand = stand_alike b.order b.limit new.held (b.held ++ f ∷ []) (IsPermutation-sym (b.held ++ f ∷ []) new.held same);
}

module _ (order : Order) (limit : ℕ) (last f : Found) (rest new : List Found) (heap : IsHeap (precedes order) (last ∷ rest)) (full : limit ≤ length (last ∷ rest)) (before : precedes order f last ≡ true) (same : IsPermutation (f ∷ rest) new) where
  -- the last of before and what is kept now are those of before and the new one
  all : IsPermutation (new ++ last ∷ []) ((last ∷ rest) ++ f ∷ [])
  all =
      let held = last ∷ rest in
      let turned : IsPermutation (new ++ last ∷ []) ((f ∷ rest) ++ last ∷ []) = IsPermutation-append_left (last ∷ []) new (f ∷ rest) (IsPermutation-sym (f ∷ rest) new same) in
      let front : IsPermutation ((f ∷ rest) ++ last ∷ []) (last ∷ f ∷ rest) = IsPermutation-to_front (f ∷ rest) last in
      let back : IsPermutation (f ∷ held) (held ++ f ∷ []) = IsPermutation-sym (held ++ f ∷ []) (f ∷ held) (IsPermutation-to_front held f) in
      IsPermutation-trans (new ++ last ∷ []) ((f ∷ rest) ++ last ∷ []) (held ++ f ∷ []) turned
      (IsPermutation-trans ((f ∷ rest) ++ last ∷ []) (last ∷ f ∷ rest) (held ++ f ∷ []) front
      (IsPermutation-trans (last ∷ f ∷ rest) (f ∷ last ∷ rest) (held ++ f ∷ []) (first_two last f rest) back))

  none_behind : (k : ℕ) (d : Found) → k < length (f ∷ rest) → precedes order last (get_or (f ∷ rest) k d) ≡ false
  none_behind zero d within = (precedes_is_order order).one_way f last before
  none_behind (suc k) d within = top_is_last (precedes order) (precedes_is_order order) (last ∷ rest) (suc k) d heap within

  enough : limit ≤ ahead (precedes order) last new
  enough =
      let lt = precedes order in
      let many = all_of_them order last (f ∷ rest) none_behind in
      let count : ahead lt last new ≡ ahead lt last (f ∷ rest) = sum_by-IsPermutation (λ g. cond (lt last g) 0 1) (f ∷ rest) new same in
      omega (arith, many, count, full)

  pub replaced : Offers (f ∷ []) (record { order = order; limit = limit; held = last ∷ rest }) (record { order = order; limit = limit; held = new })
  replaced = record {
    order = refl;
    limit = refl;
    drawn = record { others = last ∷ []; same = all };
    stand = stand_through order limit new (new ++ last ∷ []) ((last ∷ rest) ++ f ∷ []) (stand_ahead order limit new last enough) (stand_alike order limit (new ++ last ∷ []) ((last ∷ rest) ++ f ∷ []) all);
  }

-- one takes the place of the last
pub replaces : (order : Order) (limit : ℕ) (last f : Found) (held new : List Found) → IsHeap (precedes order) held → limit ≤ length held → 0 < length held → last ≡ get_or held 0 last → precedes order f last ≡ true → IsPermutation (set held 0 f) new
    → Offers (f ∷ []) (record { order = order; limit = limit; held = held }) (record { order = order; limit = limit; held = new })
replaces order limit last f [] new heap full some is before same = absurd (omega arith)
replaces order limit last f (g ∷ rest) new heap full some is before same = replaced order limit g f rest new heap full (subst (λ x. precedes order f x ≡ true) is before) same
