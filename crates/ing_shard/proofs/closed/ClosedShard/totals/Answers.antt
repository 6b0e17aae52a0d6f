use Rattle.std.proofs.Common.{ap, subst}
use Rattle.ing_rows.specs.Sound.{IsSound}
use Rattle.ing_shard.proofs.closed.ClosedShard.totals.Goals as goal

pub returns-clause-once : goal.returns-clause-once
returns-clause-once g c = λ stream.
    let own = ap (λ contents. contents.state) c.self.view_is in
    (subst IsSound own c.totals.ensures.sound).once stream
