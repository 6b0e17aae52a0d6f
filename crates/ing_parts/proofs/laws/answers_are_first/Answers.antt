use Rattle.std.proofs.Common.{length, take, drop, ap, sym, subst, arith}
use Rattle.std.specs.List.{Contains}
use Rattle.std.specs.List.Sorted.{IsSortedBy}
use Rattle.std.proofs.lemmas.List.{length-take, take-append-drop}
use Rattle.std.proofs.lemmas.List.Elements.{Contains-append_left}
use Rattle.std.proofs.lemmas.List.Sorted.{Contains-permutation, IsPermutation-sym}
use Rattle.ing_parts.specs.Answers.{precedes}
use Rattle.ing_parts.proofs.Insertion.{sorted_taken}
use Rattle.ing_parts.proofs.laws.answers_are_first.Goals as goal

pub returns-clause-most : goal.returns-clause-most
returns-clause-most c = λ order limit all answer h. omega (arith, ap length h.cut, length-take limit h.sorted)

pub returns-clause-in_order : goal.returns-clause-in_order
returns-clause-in_order c = λ order limit all answer h. subst (IsSortedBy (precedes order)) (sym h.cut) (sorted_taken (precedes order) limit h.sorted h.in_order)

pub returns-clause-among : goal.returns-clause-among
returns-clause-among c = λ order limit all answer h f of.
    let first : Contains (take limit h.sorted) f = subst (λ l. Contains l f) h.cut of in
    let sorted : Contains h.sorted f = subst (λ l. Contains l f) (take-append-drop limit h.sorted) (Contains-append_left (take limit h.sorted) (drop limit h.sorted) f first) in
    Contains-permutation h.sorted all f (IsPermutation-sym all h.sorted h.same) sorted
