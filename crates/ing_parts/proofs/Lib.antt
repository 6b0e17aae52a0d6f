pub mod FoundLaws
mod HeapLaws
mod Insertion
mod KeptLaws
mod ListingLaws
mod Narrowed
mod OfferLaws
mod PageLaws
mod PartLaws
pub mod RangeLaws
pub mod Reordered
mod SomeLaws
mod StandLaws
