use Rattle.std.proofs.Common.{List, [], map, refl, subst, sym}
use Rattle.std.specs.Prelude.{string_bytes}
use Rattle.ing_commands.specs.Views.{catalog_view}
use Rattle.ing_durable.specs.Catalog.{AddsCatalog, IsCatalog, matchers_in}
use Rattle.ing_durable.proofs.CatalogLaws.{is_catalog}
use Rattle.ing_service.specs.ByShards.{rows_of}
use Rattle.ing_service.specs.Catalogs.{Listed, asked_by}
use Rattle.ing_service.specs.Held.{shard_held}
use Rattle.ing_service.specs.declared.seat.Seat.{Seat}
use Rattle.ing_service.proofs.owned.OwnShards.list.Goals as goal

pub returns : goal.returns
returns g c = λ asks.
    let question = catalog_view c.args.catalog.now in
    let own = c.args.self.now in
    let rows = rows_of (map (λ seat. shard_held seat.shard) own.seats.items) in
    let ms = matchers_in c.args.selector in
    let list = c.in_ok-into_vec.field-0 in
    let told = subst (λ (seats : List (Seat g.row.D.Denot g.row.R.Denot g.D.LogDisk g.R.Receipt)). AddsCatalog (asked_by question ms) (rows_of (map (λ seat. shard_held seat.shard) seats)) [] c.in_ok-texts.texts) c.deref.ensures.value c.in_ok-texts.ensures in
    let texts = map string_bytes list.items in
    record {
      listing = Listed texts;
      may_be = (ms, asks, subst (IsCatalog (asked_by question ms) rows) (sym c.in_ok-into_vec.ensures.same) (is_catalog (asked_by question ms) rows _ told c.in_ok-into_vec.ensures.rising));
      told = c.of_catalog.ensures;
      left = refl;
      failures = refl;
    }
