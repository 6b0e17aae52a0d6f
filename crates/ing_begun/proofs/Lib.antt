pub mod Lists
pub mod PlaceLaws
mod RecoverLaws
-- lemmas of a crate below, for those above
pub use Rattle.ing_durable.proofs.CatalogLaws
