use Rattle.std.proofs.Common.{List, subst, sym}
use Rattle.std.specs.List.{flat_map}
use Rattle.ing_begun.specs.Catalog.{IsCatalog, asked_view}
use Rattle.ing_begun.proofs.CatalogLaws.{is_catalog}
use Rattle.ing_rows.specs.Rows.{Row}
use Rattle.ing_node.proofs.ingester.Ingester.catalog_after.Goals as goal

pub returns-clause-lists : goal.returns-clause-lists
returns-clause-lists g c =
    let told = c.in_ok-texts.ensures.told in
    let asked = asked_view c.args.asked.now in
    let rows = flat_map (λ (l : List Row). l) told.shards in
    let vec = c.in_ok-into_vec.ensures in
    record {
      shards = told.shards;
      all = told.all;
      no_less = told.no_less;
      lists = subst (IsCatalog asked rows) (sym vec.same) (is_catalog asked rows _ told.adds vec.rising);
    }
