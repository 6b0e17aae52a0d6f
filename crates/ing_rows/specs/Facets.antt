-- What catalogs of streams list, without where it lies in memory (Loki documentation: HTTP API, list series, list labels, list the
-- values of a label).
use Rattle.std.specs.Prelude.{ℕ, List}
use Rattle.ing_rows.specs.declared.facet.Facet as code
use Rattle.ing_rows.specs.declared.facet.Facet.TheVariants as variants

-- their canonical names, the names of their labels, or the values of their label of one name
pub data Facet : Type 0 where
  Series : Facet
  Labels : Facet
  Values : List ℕ → Facet

abbrev pub facet_view : code.Facet → Facet
facet_view variants.Series = Series
facet_view variants.Labels = Labels
facet_view (variants.Values name) = Values name.now
