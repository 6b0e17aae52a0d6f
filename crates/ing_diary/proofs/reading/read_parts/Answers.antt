use Rattle.std.proofs.Common.{rules, ◌≡◌, ◌+◌, suc, arith, filter, map, subst, take}
use Rattle.ing_parts.specs.Parts.{found_among}
use Rattle.ing_diary.specs.Fronts.{is_from}
use Rattle.ing_diary.specs.Notes.{AreRead, has_number, numbered_of}
use Rattle.ing_diary.proofs.NoteLaws.{got}
use Rattle.ing_diary.proofs.ReadLaws.{parts_next}
use Rattle.ing_diary.proofs.reading.read_parts.Goals as goal

pub loop-part-preserved : goal.loop-part-preserved
loop-part-preserved g c =
    let at = c.loop-part.invariant in
    let honest = g.S.StoreEnd.is_honest in
    let front = c.args.front in
    let parts = c.args.parts.now in
    let place = c.loop-part.part-index in
    let part = c.part-item.result in
    let next : suc place ≡ place + 1 = omega arith in
    record {
      all =
          subst (λ n. AreRead has_number honest (filter (is_from front) (map numbered_of (found_among (take n parts)))) c.add_part.new.entries.items) next
          (parts_next honest front parts place part c.loop-part.entries.items c.add_part.new.entries.items (got parts place part part c.loop-part-test.true c.part-item.is) at.all c.in_ok-add_part.ensures.all);
      count = search rules;
      sure = search rules;
    }
