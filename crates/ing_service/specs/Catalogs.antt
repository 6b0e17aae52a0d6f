-- What a question for a catalog comes to.
use Rattle.std.specs.Prelude.{ℕ, List}
use Rattle.serde_json.specs.Data.{Data}
use Rattle.ing_labels.specs.Selectors.{Match}
use Rattle.ing_labels.specs.TextFaults.{text_fault_place, text_refusal_of}
use Rattle.ing_labels.specs.declared.text_fault.TextFault.{TextFault}
use Rattle.ing_rows.specs.Rows.{Row}
use Rattle.ing_durable.specs.Catalog.{Asked, IsCatalog}
use Rattle.ing_commands.specs.CatalogCommands.{CatalogCommand}
use Rattle.ing_session.specs.Replies.{catalog_data, fault_data}
use Rattle.ing_session.specs.Selecting.{AsksBy, IsTextRefused}

-- its text is refused, or these texts are listed
pub data Listing : Type 0 where
  NoSelector : TextFault → Listing
  Listed : List (List ℕ) → Listing

-- what is asked by these matchers
abbrev pub asked_by : CatalogCommand → List Match → Asked
asked_by catalog ms = record { tenant = catalog.tenant; ms = ms; facet = catalog.facet }

-- It may come to this, of these rows: what is listed is exactly what is asked for.
abbrev pub CatalogMayBe : CatalogCommand → List Row → Listing → Type 0
CatalogMayBe catalog rows (NoSelector fault) = IsTextRefused catalog.text fault
CatalogMayBe catalog rows (Listed texts) = (ms : List Match) × AsksBy catalog.text ms × IsCatalog (asked_by catalog ms) rows texts

abbrev pub listing_reply : CatalogCommand → Listing → Data
listing_reply catalog (NoSelector fault) = fault_data (text_refusal_of fault) (text_fault_place fault)
listing_reply catalog (Listed texts) = catalog_data catalog.facet texts
