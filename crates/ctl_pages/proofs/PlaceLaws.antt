-- The order of places.
use Rattle.std.proofs.Common.{◌≡◌, Bool, true, false, Option, Some, None, refl, sym, ◌∙◌}
use Rattle.std.specs.Cmp.{IsStrictWeakOrder, IsTotalOrder}
use Rattle.std.specs.Ordering.{is_lt}
use Rattle.std.proofs.lemmas.Bool.{true≢false}
use Rattle.std.proofs.lemmas.Cmp.{nat_cmp_total, nat_list_cmp_total, on_total, then_total}
use Rattle.std.proofs.lemmas.List.Sorted.{ranks_by, IsStrictWeakOrder-flip}
use Rattle.ing_rows.specs.Cursors.{Cursor}
use Rattle.ing_rows.specs.declared.order.Order.{Order}
use Rattle.ing_rows.specs.declared.order.Order.TheVariants.{Forward, Backward}
use Rattle.ctl_pages.specs.Pages.{is_behind, place_cmp, precedes}

is_total : IsTotalOrder place_cmp
is_total =
    then_total (on_total (λ (p : Cursor). p.stamp) nat_cmp_total)
    (then_total (on_total (λ (p : Cursor). p.stream) nat_list_cmp_total) (on_total (λ (p : Cursor). p.number) nat_cmp_total))

is_order : IsStrictWeakOrder (λ (p q : Cursor). is_lt (place_cmp p q))
is_order = ranks_by is_total (λ (p : Cursor). p)

pub precedes_is_order : (order : Order) → IsStrictWeakOrder (precedes order)
precedes_is_order Forward = is_order
precedes_is_order Backward = IsStrictWeakOrder-flip (λ (p q : Cursor). is_lt (place_cmp p q)) is_order

-- no place stands before itself
pub not_itself : (order : Order) (p : Cursor) → precedes order p p ≡ false
not_itself order p = by (precedes order p p) refl where
  by : (t : Bool) → precedes order p p ≡ t → precedes order p p ≡ false
  by true is = (precedes_is_order order).one_way p p is
  by false is = is

-- what stands before one that stands before a third
pub precedes_on : (order : Order) (p q r : Cursor) → precedes order p q ≡ true → precedes order q r ≡ true → precedes order p r ≡ true
precedes_on order p q r first second = by (precedes order p r) refl where
  by : (t : Bool) → precedes order p r ≡ t → precedes order p r ≡ true
  by true is = is
  by false is =
      let o = precedes_is_order order in
      absurd (true≢false (sym first ∙ o.chain p r q is (o.one_way q r second)))

-- what stands behind a place stands behind whatever that stands behind
pub still_behind : (order : Order) (after : Option Cursor) (p q : Cursor) → is_behind order after p ≡ true → precedes order p q ≡ true
    → is_behind order after q ≡ true
still_behind order None p q there first = refl
still_behind order (Some from) p q there first = precedes_on order from p q there first
