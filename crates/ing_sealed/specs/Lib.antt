pub mod Slots
pub mod Views
pub mod KeptSlots
-- what its clauses speak of in the crates below
pub use Rattle.ing_parts.specs.Listings
pub use Rattle.ing_parts.specs.Parts
pub use Rattle.ing_store.specs.ObjectNames
pub use Rattle.ing_store.specs.RowObjects
