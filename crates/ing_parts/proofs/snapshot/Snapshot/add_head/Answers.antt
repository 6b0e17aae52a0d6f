use Rattle.std.proofs.Common.{refl}
use Rattle.ing_parts.proofs.RangeLaws.{adds_offered}
use Rattle.ing_parts.proofs.snapshot.Snapshot.add_head.Goals as goal

pub returns : goal.returns
returns g c = adds_offered c.args.name.now c.args.head.now c.args.self.now _ refl refl refl c.in_ok-offer_head.ensures
