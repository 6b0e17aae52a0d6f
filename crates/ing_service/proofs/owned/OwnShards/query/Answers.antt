use Rattle.std.proofs.Common.{map}
use Rattle.ing_commands.specs.Views.{query_view}
use Rattle.ing_service.specs.Held.{held_in, shard_held}
use Rattle.ing_service.proofs.ObeyLaws.{refused}
use Rattle.ing_service.proofs.owned.OwnShards.query.Goals as goal

pub returns-in-Ok-clause-obeyed : goal.returns-in-Ok-clause-obeyed
returns-in-Ok-clause-obeyed g c = c.find.ensures.obeyed c.in-Ok.ensures.selector c.in-Ok.ensures.narrow

pub returns-in-Err-clause-obeyed : goal.returns-in-Err-clause-obeyed
returns-in-Err-clause-obeyed g c =
    let own = c.args.self.now in
    refused g.S.StoreEnd.is_honest g.N.Beginning.begun own.settings (query_view c.args.query.now) (held_in (map (λ seat. shard_held seat.shard) own.seats.items) own.ops.items) (g.S.StoreEnd.failure_count c.args.end.now) c.in-Err.fault c.selector_fault.result
    c.in-Err.ensures.fault c.selector_fault.ensures.memory c.selector_fault.ensures.reply
