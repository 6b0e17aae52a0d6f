use Rattle.std.proofs.Common.{◌≡◌, Ok, map, refl, subst, sym}
use Rattle.std.proofs.lemmas.Result.{IfOk-weaker}
use Rattle.ing_commands.specs.Commands.{Board, Catalog, Checkpoint, Gauges, Push, Sweep, Query}
use Rattle.ing_commands.specs.Views.{catalog_view, gauges_view, push_view, query_view, sweep_view}
use Rattle.ing_service.specs.ByShards.{AsksBoard, AsksGauges, Checkpoints, Lists, Pushes, Sweeps, by_shards}
use Rattle.ing_service.specs.Held.{held_in, shard_held}
use Rattle.ing_session.specs.Runs.{IsObeyed}
use Rattle.ing_session.specs.Views.{reply_data}
use Rattle.ing_service.proofs.ObeyLaws.{obeys}
use Rattle.ing_service.proofs.owned.OwnShardsService.obey.Goals as goal

pub returns-in-Push-clause-obeyed : goal.returns-in-Push-clause-obeyed
returns-in-Push-clause-obeyed g c =
    let own = c.args.self.now in
    let new = c.push.new.self in
    rw c.in-Push.is (IfOk-weaker c.push.result _ _
    (λ reply does. obeys g.S.StoreEnd.is_honest g.N.Beginning.begun own.settings (held_in (map (λ seat. shard_held seat.shard) own.seats.items) own.ops.items) (held_in (map (λ seat. shard_held seat.shard) new.seats.items) new.ops.items)
    (Push (push_view c.in-Push.push)) (g.S.StoreEnd.failure_count c.args.end.now) (reply_data reply) (Pushes does))
    c.push.ensures.obeyed)

pub returns-in-Sweep-clause-obeyed : goal.returns-in-Sweep-clause-obeyed
returns-in-Sweep-clause-obeyed g c =
    let own = c.args.self.now in
    let new = c.sweep.new.self in
    rw c.in-Sweep.is (IfOk-weaker c.sweep.result _ _
    (λ reply does. obeys g.S.StoreEnd.is_honest g.N.Beginning.begun own.settings (held_in (map (λ seat. shard_held seat.shard) own.seats.items) own.ops.items) (held_in (map (λ seat. shard_held seat.shard) new.seats.items) new.ops.items)
    (Sweep (sweep_view c.in-Sweep.sweep)) (g.S.StoreEnd.failure_count c.args.end.now) (reply_data reply) (Sweeps does))
    c.sweep.ensures.obeyed)

pub returns-in-Gauges-clause-obeyed : goal.returns-in-Gauges-clause-obeyed
returns-in-Gauges-clause-obeyed g c =
    let own = c.args.self.now in
    let held = held_in (map (λ seat. shard_held seat.shard) own.seats.items) own.ops.items in
    rw c.in-Gauges.is (IfOk-weaker c.gauges.result _ _
    (λ reply told. obeys g.S.StoreEnd.is_honest g.N.Beginning.begun own.settings held held
    (Gauges (gauges_view c.in-Gauges.gauges)) (g.S.StoreEnd.failure_count c.args.end.now) (reply_data reply) (AsksGauges (record { told = told; left = refl; failures = refl })))
    c.gauges.ensures)

pub returns-in-Board-clause-obeyed : goal.returns-in-Board-clause-obeyed
returns-in-Board-clause-obeyed g c =
    let own = c.args.self.now in
    let held = held_in (map (λ seat. shard_held seat.shard) own.seats.items) own.ops.items in
    rw c.in-Board.is (IfOk-weaker c.board.result _ _
    (λ reply told. obeys g.S.StoreEnd.is_honest g.N.Beginning.begun own.settings held held
    Board (g.S.StoreEnd.failure_count c.args.end.now) (reply_data reply) (AsksBoard (record { told = told; left = refl; failures = refl })))
    c.board.ensures)

pub returns-in-Checkpoint-clause-obeyed : goal.returns-in-Checkpoint-clause-obeyed
returns-in-Checkpoint-clause-obeyed g c =
    let own = c.args.self.now in
    let new = c.checkpoint.new.self in
    rw c.in-Checkpoint.is (IfOk-weaker c.checkpoint.result _ _
    (λ reply does. obeys g.S.StoreEnd.is_honest g.N.Beginning.begun own.settings (held_in (map (λ seat. shard_held seat.shard) own.seats.items) own.ops.items) (held_in (map (λ seat. shard_held seat.shard) new.seats.items) new.ops.items)
    Checkpoint (g.S.StoreEnd.failure_count c.args.end.now) (reply_data reply) (Checkpoints does))
    c.checkpoint.ensures.obeyed)

pub returns-in-Query-clause-obeyed : goal.returns-in-Query-clause-obeyed
returns-in-Query-clause-obeyed g c =
    let own = c.args.self.now in
    let now = held_in (map (λ seat. shard_held seat.shard) own.seats.items) own.ops.items in
    let failures = g.S.StoreEnd.failure_count in
    rw c.in-Query.is (IfOk-weaker c.query.result _ _
    (λ reply obeyed held is. subst (λ h. IsObeyed (by_shards g.S.StoreEnd.is_honest g.N.Beginning.begun) own.settings (Ok (Query (query_view c.in-Query.query))) h (λ left. left ≡ now) (failures c.args.end.now) (failures c.query.new.end) (reply_data reply)) (sym is) obeyed)
    c.query.ensures.obeyed)

pub returns-in-Catalog-clause-obeyed : goal.returns-in-Catalog-clause-obeyed
returns-in-Catalog-clause-obeyed g c =
    let own = c.args.self.now in
    let held = held_in (map (λ seat. shard_held seat.shard) own.seats.items) own.ops.items in
    rw c.in-Catalog.is (IfOk-weaker c.catalog.result _ _
    (λ reply does. obeys g.S.StoreEnd.is_honest g.N.Beginning.begun own.settings held held
    (Catalog (catalog_view c.in-Catalog.catalog)) (g.S.StoreEnd.failure_count c.args.end.now) (reply_data reply) (Lists does))
    c.catalog.ensures)
