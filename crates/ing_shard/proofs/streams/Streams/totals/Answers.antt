use Rattle.std.proofs.Common.{sym}
use Rattle.ing_shard.proofs.ReadLaws.{entries_are, sound, stored_are}
use Rattle.ing_shard.proofs.streams.Streams.totals.Goals as goal

pub returns-clause-totals : goal.returns-clause-totals
returns-clause-totals g c =
    let laws = c.parts_are_apart.ensures in
    let streams = c.args.self.now in
    let fresh = c.pushes_keep_states_sound.ensures.fresh in
    let go = c.order_does_not_count.ensures.facts in
    λ i. (sym (entries_are go laws.facts laws.sound fresh laws.streams streams c.requires) i, sym (stored_are go laws.facts laws.sound fresh laws.streams streams c.requires) i)

pub returns-clause-sound : goal.returns-clause-sound
returns-clause-sound g c = sound c.order_does_not_count.ensures.facts c.parts_are_apart.ensures.facts c.parts_are_apart.ensures.sound c.pushes_keep_states_sound.ensures.fresh c.parts_are_apart.ensures.streams c.args.self.now c.requires
