use Rattle.std.proofs.Common.{refl}
use Rattle.ing_parts.proofs.RangeLaws.{adds_offered}
use Rattle.ing_parts.proofs.snapshot.Snapshot.passes_over.Goals as goal

pub returns : goal.returns
returns g c = λ passed name es span.
    let s = c.args.self.now in
    adds_offered name es s s refl refl refl (c.is_passed_over.ensures passed name es span)
