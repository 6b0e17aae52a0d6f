use Rattle.std.proofs.Common.{◌≡◌, ap, arith, length, map, subst, vec_len}
use Rattle.std.specs.Prelude.{IfSome}
use Rattle.ing_diary.specs.Fronts.{front_in}
use Rattle.ing_node.proofs.closing.is_closable.Goals as goal

pub settle_all-requires-clause-each : goal.settle_all-requires-clause-each
settle_all-requires-clause-each g c =
    let kept =
    subst (λ o. IfSome o (λ all. (vec_len all ≡ g.N.NodeName.settings.shards) × (map front_in all.items ≡ g.N.NodeName.earlier.fronts))) c.in-Some.is c.earlier.invariant.6 in
    let fronts = c.in-Some.fronts in
    omega (arith, ap length c.deref.ensures.value, kept.0, fronts.ok.0, c.requires.all)
