use Rattle.std.proofs.Common.{◌≡◌, ◌++◌, [], List, ap, append-nil, map, sym, subst, ◌∙◌}
use Rattle.std.specs.Prelude.{IsPermutation}
use Rattle.std.specs.Vec.Iter.{into_iter_items}
use Rattle.std.proofs.lemmas.List.{nil_from_length}
use Rattle.std.proofs.lemmas.List.Sorted.{IsPermutation-map}
use Rattle.ctl_export.specs.Orders.{number_in}
use Rattle.ctl_export.specs.declared.order.Place.{Place}
use Rattle.ctl_export.proofs.order.numbers_in_order.Goals as goal

pub returns : goal.returns
returns c =
    let places = c.args.places.items in
    let sorted = c.sort_unstable_by.new.self.items in
    let yielded = c.loop-place.yielded in
    let none : into_iter_items c.loop-place.place-iterator ≡ [] = nil_from_length (into_iter_items c.loop-place.place-iterator) (sym c.loop-place.invariant.whole ∙ c.in-None.ensures.steps.0) in
    let all : yielded ≡ sorted = sym (append-nil yielded) ∙ ap (λ (l : List Place). yielded ++ l) (sym none) ∙ c.loop-place.invariant.all ∙ c.into_iter-place-iterator.ensures.into_iter_gives.0 in
    let numbers : c.loop-place.order.items ≡ map number_in sorted = c.loop-place.invariant.numbers ∙ ap (map number_in) all in
    subst (IsPermutation (map number_in places)) (sym numbers) (IsPermutation-map number_in places sorted c.sort_unstable_by.ensures.permutation)
