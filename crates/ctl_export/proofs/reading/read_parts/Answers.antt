use Rattle.std.proofs.Common.{rules, ◌≡◌, ◌+◌, suc, arith, map, subst, take}
use Rattle.std.specs.Prelude.{IsPermutation}
use Rattle.std.proofs.lemmas.List.{take_all}
use Rattle.std.proofs.lemmas.List.Sorted.{IsNonDecreasingBy-from_sort_by_key, IsPermutation-trans}
use Rattle.ing_parts.specs.Parts.{found_among}
use Rattle.ctl_export.specs.Reads.{number_of, numbered_of}
use Rattle.ctl_export.proofs.ReadLaws.{got, parts_next}
use Rattle.ctl_export.proofs.reading.read_parts.Goals as goal

pub loop-part-preserved : goal.loop-part-preserved
loop-part-preserved g c =
    let at = c.loop-part.invariant in
    let added = c.in_ok-add_part.ensures in
    let parts = c.args.parts.now in
    let place = c.loop-part.part-index in
    let part = c.part-item.result in
    let next : suc place ≡ place + 1 = omega arith in
    record {
      all = λ honest.
          subst (λ n. IsPermutation (map numbered_of (found_among (take n parts))) c.add_part.new.entries.items) next
          (parts_next parts place part c.loop-part.entries.items c.add_part.new.entries.items (got parts place part part c.loop-part-test.true c.part-item.is) (at.all honest) (added.all honest));
      count = search rules;
      sure = search rules;
    }

pub returns-clause-all : goal.returns-clause-all
returns-clause-all g c honest =
    let parts = c.args.parts.now in
    let all = map numbered_of (found_among parts) in
    let before = c.loop-part.entries.items in
    let read = subst (λ ps. IsPermutation (map numbered_of (found_among ps)) before) (take_all c.loop-part.part-index parts c.loop-part-test.false) (c.loop-part.invariant.all honest) in
    IsPermutation-trans all before c.sort_unstable_by_key.new.self.items read c.sort_unstable_by_key.ensures.permutation

pub returns-clause-in_order : goal.returns-clause-in_order
returns-clause-in_order g c = IsNonDecreasingBy-from_sort_by_key number_of c.sort_unstable_by_key.new.self.items c.sort_unstable_by_key.ensures.sorted (search rules)
