-- The least of some names is the first of them.
use Rattle.std.proofs.Common.{◌≡◌, ℕ, Bool, true, false, not, ◌||◌, ◌&&◌, cond, List, [], ◌∷◌, Some, MatchOption, refl, ap, sym, subst, ◌∙◌, nat_cmp}
use Rattle.std.specs.Prelude.{bytes_eq}
use Rattle.std.specs.List.{list_any, list_all}
use Rattle.std.specs.Ordering.{is_lt, is_gt, ordering_reverse}
use Rattle.std.specs.declared.cmp.Ordering.{Ordering}
use Rattle.std.specs.declared.cmp.Ordering.TheVariants.{Less, Equal, Greater}
use Rattle.std.specs.Cmp.Lexicographic.{slice_cmp}
use Rattle.std.proofs.lemmas.Cmp.{nat_list_cmp_total, upto, tied_itself}
use Rattle.std.proofs.lemmas.Slice.Eq.{bytes_eq-Decides}
use Rattle.ing_limits.specs.Settings.{least_with}
use Rattle.ing_limits.specs.First.{IsFirst, LeastIsFirst}

abbrev compared : List ℕ → List ℕ → Ordering
compared = slice_cmp nat_cmp

-- a name that is before another is not behind it, and one that is not before it has it not behind
before : (o : Ordering) → is_lt o ≡ true → is_gt o ≡ false
before Less e = refl
before Equal e = cc
before Greater e = cc

turned : (o : Ordering) → is_lt o ≡ false → is_gt (ordering_reverse o) ≡ false
turned Less e = cc
turned Equal e = refl
turned Greater e = refl

-- a name that has another not behind is not behind it
not_behind : (o : Ordering) → is_gt o ≡ false → not (is_lt (ordering_reverse o)) ≡ true
not_behind Less e = refl
not_behind Equal e = refl
not_behind Greater e = cc

or_later : (a b : Bool) → b ≡ true → (a || b) ≡ true
or_later true b e = refl
or_later false b e = e

or_beside : (a b c : Bool) → (a || c) ≡ true → (a || (b || c)) ≡ true
or_beside true b c e = refl
or_beside false b c e = or_later b c e

and_both : (a b : Bool) → a ≡ true → b ≡ true → (a && b) ≡ true
and_both a b p q = ap (λ x. x && b) p ∙ q

-- with what a running minimum ends that began with a name
record Least (first : List ℕ) (names : List (List ℕ)) : Type 0 where
  least : List ℕ
  found : least_with (Some first) names ≡ Some least
  is_one : (bytes_eq least first || list_any (λ other. bytes_eq least other) names) ≡ true
  not_behind_first : is_gt (compared least first) ≡ false
  none_before : list_all (λ other. not (is_lt (compared other least))) names ≡ true

least_not_after : (least name : List ℕ) → is_gt (compared least name) ≡ false → not (is_lt (compared name least)) ≡ true
least_not_after least name e = ap (λ o. not (is_lt o)) (nat_list_cmp_total.antisymm name least) ∙ not_behind (compared least name) e

one_more : (first n : List ℕ) (ns : List (List ℕ)) (b : Bool) → is_lt (compared n first) ≡ b → Least n ns → Least first ns → Least first (n ∷ ns)
one_more first n ns true e rest other = record {
  least = rest.least;
  found = ap (λ b. least_with (cond b (Some n) (Some first)) ns) e ∙ rest.found;
  is_one = or_later (bytes_eq rest.least first) _ rest.is_one;
  not_behind_first = upto nat_list_cmp_total rest.least n first rest.not_behind_first (before (compared n first) e);
  none_before = and_both _ _ (least_not_after rest.least n rest.not_behind_first) rest.none_before;
}
one_more first n ns false e other rest =
    let first_not_after : is_gt (compared first n) ≡ false = ap is_gt (nat_list_cmp_total.antisymm first n) ∙ turned (compared n first) e in
    record {
      least = rest.least;
      found = ap (λ b. least_with (cond b (Some n) (Some first)) ns) e ∙ rest.found;
      is_one = or_beside (bytes_eq rest.least first) (bytes_eq rest.least n) _ rest.is_one;
      not_behind_first = rest.not_behind_first;
      none_before = and_both _ _ (least_not_after rest.least n (upto nat_list_cmp_total rest.least first n rest.not_behind_first first_not_after)) rest.none_before;
    }

least_of_more : (first : List ℕ) (names : List (List ℕ)) → Least first names
least_of_more first [] = record {
  least = first;
  found = refl;
  is_one = ap (λ b. b || false) ((bytes_eq-Decides first first).1 refl);
  not_behind_first = ap is_gt (tied_itself nat_list_cmp_total first);
  none_before = refl;
}
least_of_more first (n ∷ ns) = one_more first n ns (is_lt (compared n first)) refl (least_of_more n ns) (least_of_more first ns)

pub least_is_first : LeastIsFirst
least_is_first [] = refl
least_is_first (n ∷ ns) =
    let more = least_of_more n ns in
    subst (λ o. MatchOption o (n ∷ ns ≡ []) (IsFirst (n ∷ ns))) (sym more.found)
    (record { is_one = more.is_one; none_before = and_both _ _ (least_not_after more.least n more.not_behind_first) more.none_before })
