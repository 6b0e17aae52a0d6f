use Rattle.std.proofs.Common.{◌≡◌, ◌++◌, ◌∷◌, [], append-nil, ap, arith, map, subst, sym, take, ◌∙◌}
use Rattle.std.proofs.lemmas.List.{length-map, take_all}
use Rattle.std.proofs.lemmas.List.Concat.{flat_map-append}
use Rattle.ing_durable.specs.Catalog.{AddsCatalog, asked_view}
use Rattle.ing_durable.specs.Contents.{Contents}
use Rattle.ing_durable.proofs.CatalogLaws.{adds_both}
use Rattle.ing_service.specs.ByShards.{rows_of}
use Rattle.ing_service.specs.Held.{ShardHeld, shard_held}
use Rattle.ing_service.proofs.EachLaws.{first_more}
use Rattle.ing_service.proofs.seats.catalog_of_each.Goals as goal

-- one shard more
pub loop-seat-preserved : goal.loop-seat-preserved
loop-seat-preserved g c =
    let asked = asked_view c.args.asked.now in
    let i = c.loop-seat.seat-index in
    let seat = c.seat-item.result in
    let held = take i (map (λ seat. shard_held seat.shard) c.args.seats.now) in
    let rows = seat.shard.memory.state.rows in
    let new = c.add_catalog.new.texts in
    let added : AddsCatalog asked rows c.loop-seat.texts new = subst (λ (m : Contents). AddsCatalog asked m.state.rows c.loop-seat.texts new) c.memory.ensures c.in_ok-add_catalog.ensures in
    let own : rows_of (shard_held seat.shard ∷ []) ≡ rows = append-nil rows in
    let all : rows_of held ++ rows ≡ rows_of (held ++ shard_held seat.shard ∷ []) =
    ap (λ l. rows_of held ++ l) (sym own) ∙ sym (flat_map-append (λ (shard : ShardHeld). shard.state.rows) held (shard_held seat.shard ∷ [])) in
    subst (λ shards. AddsCatalog asked (rows_of shards) [] new) (sym (first_more (λ seat. shard_held seat.shard) c.args.seats.now i seat seat c.loop-seat-test.true c.seat-item.is))
    (subst (λ l. AddsCatalog asked l [] new) all (adds_both asked (rows_of held) rows [] c.loop-seat.texts new c.loop-seat.invariant added))

pub returns : goal.returns
returns g c =
    let seats = c.args.seats.now in
    let all = take_all c.loop-seat.seat-index (map (λ seat. shard_held seat.shard) seats) (omega (arith, length-map seats (λ seat. shard_held seat.shard), c.loop-seat-test.false)) in
    subst (λ shards. AddsCatalog (asked_view c.args.asked.now) (rows_of shards) [] c.loop-seat.texts) all c.loop-seat.invariant
