-- The commands that ask for catalogs of streams: their shape, their faults, and what they say.
use Rattle.std.specs.Prelude.{ℕ, List, codes, if◌then◌else◌, Option, None, Some, Result, Ok, Err}
use Rattle.serde_json.specs.Data.{Data}
use Rattle.ing_refusals.specs.Results.{◌>>=◌}
use Rattle.ing_rows.specs.Facets.{Facet, Series, Labels, Values}
use Rattle.ing_rows.specs.Texts.{is_tenant}
use Rattle.ing_commands.specs.declared.fault.LineFault.{LineFault}
use Rattle.ing_commands.specs.declared.fault.LineFault.TheVariants.{BadTenant}
use Rattle.ing_commands.specs.Shapes.{text_at, maybe_text_at}

-- this facet of this tenant's streams that the text selects, or of all of them (Loki documentation: HTTP API, list series, list labels,
-- list the values of a label)
pub record CatalogCommand : Type 0 where
  pub tenant : List ℕ
  pub text : Option (List ℕ)
  pub facet : Facet

abbrev pub catalog_for : List ℕ → Option (List ℕ) → Facet → Result CatalogCommand LineFault
catalog_for tenant text facet = if is_tenant tenant then Ok (record { tenant = tenant; text = text; facet = facet }) else Err BadTenant

-- what a value says that asks for names of streams
unfoldable pub series_of : Data → Result CatalogCommand LineFault
series_of d = do
  tenant ← text_at (codes "tenant") d
  text ← maybe_text_at (codes "query") d
  catalog_for tenant text Series

-- the values of one label, or the names of all
abbrev pub labels_or_values : Option (List ℕ) → Facet
labels_or_values None = Labels
labels_or_values (Some name) = Values name

-- what a value says that asks for labels
unfoldable pub labels_of : Data → Result CatalogCommand LineFault
labels_of d = do
  tenant ← text_at (codes "tenant") d
  text ← maybe_text_at (codes "query") d
  name ← maybe_text_at (codes "name") d
  catalog_for tenant text (labels_or_values name)
