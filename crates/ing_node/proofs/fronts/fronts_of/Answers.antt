use Rattle.std.proofs.Common.{◌≡◌, ◌∙◌, ap, arith, length, map, reverse, sym, take, take_all}
use Rattle.ing_diary.specs.Fronts.{front_in}
use Rattle.ing_node.specs.Earlier.{fronts_in}
use Rattle.ing_node.proofs.ClosingLaws.{reverse_mapped}
use Rattle.ing_node.proofs.fronts.fronts_of.Goals as goal

pub returns-clause-all : goal.returns-clause-all
returns-clause-all g c =
    let begun = c.args.shards.now.last_first.items in
    let long = ap length c.deref-begun-items.ensures.value in
    let taken : take c.loop-begun.begun-index begun ≡ begun = take_all c.loop-begun.begun-index begun (omega (arith, long, c.loop-begun-test.false)) in
    ap (map front_in) c.reverse.ensures.items ∙ sym (reverse_mapped front_in c.loop-begun.all.items)
    ∙ ap reverse (c.loop-begun.invariant ∙ ap (map fronts_in) taken) ∙ reverse_mapped fronts_in begun
