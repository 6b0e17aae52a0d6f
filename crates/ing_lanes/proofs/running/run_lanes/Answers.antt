use Rattle.ing_lanes.proofs.ServedLaws.{adds_up, have_told, stand_told}
use Rattle.ing_lanes.proofs.running.run_lanes.Goals as goal

-- the report counts what all channels came to, and these are the entries
pub returns-in_ok-closed-in-Ok-serve_lanes-clause-served : goal.returns-in_ok-closed-in-Ok-serve_lanes-clause-served
returns-in_ok-closed-in-Ok-serve_lanes-clause-served g c =
    let served = c.in-Ok-serve_lanes.ensures.served in
    let parted = c.in-Ok-serve_lanes.parted in
    let shards = g.N.NodeName.settings.shards in
    let earlier = g.N.NodeName.earlier in
    let closed = c.in_ok-closed-in-Ok-serve_lanes in (
      served.0,
      served.1,
      adds_up shards earlier served.0 parted.pushers.items parted.tallies.items closed.closed.report.shards.items served.2 closed.ensures.closed,
      λ honest wants.
          have_told shards earlier served.0 parted.pushers.items parted.tallies.items closed.closed.shards.items served.2 (closed.ensures.settled honest wants (c.in-Ok-serve_lanes.ensures.diaries wants)),
      λ wants.
          stand_told shards earlier served.0 parted.pushers.items parted.tallies.items closed.closed.shards.items served.2 (closed.ensures.places wants (c.in-Ok-serve_lanes.ensures.diaries wants)),
    )
