use Rattle.std.proofs.Common.{◌≡◌, ◌∙◌, ◌-◌, ◌+◌, ◌*◌, ◌/◌, ◌≤◌, ℕ, false, true, ap, get_or, refl, sym, arith}
use Rattle.std.proofs.lemmas.List.Sorted.{IsPermutation-refl, IsPermutation-trans}
use Rattle.ing_parts.specs.Answers.{precedes}
use Rattle.ing_parts.proofs.HeapLaws.{closes, compared, leaf, up}
use Rattle.ing_parts.proofs.StandLaws.{precedes_is_order}
use Rattle.ing_parts.proofs.best.rise.Goals as goal

pub loop-at-init : goal.loop-at-init
loop-at-init c = record {
  within = c.requires.within;
  count = refl;
  same = IsPermutation-refl c.args.held.now;
  rest = c.requires.rest;
  below = leaf (precedes c.args.order) c.args.held.now c.args.leaf c.requires.leaf;
}

pub loop-at-preserved : goal.loop-at-preserved
loop-at-preserved c =
    let at = c.loop-at in
    let lt = precedes c.args.order in
    let some = c.loop-at-test.true in
    let above : ℕ = (at.at - 1) / 2 in
    let new = c.swap.new.self in
    let within = at.invariant.within in
    let one = c.index-held-above in
    let other = c.index-held-at in
    let before : lt one.result other.result ≡ true = sym c.compare.ensures ∙ sym c.is_lt.ensures ∙ c.if-not-is_lt.false in
    let test = compared lt at.held above at.at one.result other.result true (omega arith) within one.is other.is before in
    let from : above * 2 + 1 ≤ at.at = omega arith in
    let to : at.at ≤ above * 2 + 2 = omega arith in
    let risen = up lt at.held new above at.at from to within c.swap.ensures.after (precedes_is_order c.args.order) test at.invariant.rest in
    record {
      within = omega (arith, c.swap.ensures.len);
      count = c.swap.ensures.len ∙ at.invariant.count;
      same = IsPermutation-trans c.args.held.now at.held new at.invariant.same c.swap.ensures.permutation;
      rest = risen.0;
      below = risen.1;
    }

pub returns-then-not-is_lt : goal.returns-then-not-is_lt
returns-then-not-is_lt c =
    let at = c.loop-at in
    let lt = precedes c.args.order in
    let some = c.loop-at-test.true in
    let above : ℕ = (at.at - 1) / 2 in
    let within = at.invariant.within in
    let one = c.index-held-above in
    let other = c.index-held-at in
    let behind : lt one.result other.result ≡ false = sym c.compare.ensures ∙ sym c.is_lt.ensures ∙ c.if-not-is_lt.true in
    let test = compared lt at.held above at.at one.result other.result false (omega arith) within one.is other.is behind in
    record {
      same = at.invariant.same;
      count = at.invariant.count;
      heap = closes lt at.held at.at
          (λ p d a b. let is : p ≡ above = omega arith in ap (λ m. lt (get_or at.held m d) (get_or at.held at.at d)) is ∙ test d)
          at.invariant.rest at.invariant.below;
    }

pub returns : goal.returns
returns c =
    let at = c.loop-at in
    let top = c.loop-at-test.false in
    record {
      same = at.invariant.same;
      count = at.invariant.count;
      heap = closes (precedes c.args.order) at.held at.at (λ p d a b. absurd (omega arith)) at.invariant.rest at.invariant.below;
    }
