pub mod Texts
pub mod Loops
pub mod Order
pub mod Binds
pub mod Built
mod Wholes
pub mod Writes
pub mod FieldLaws
pub mod TextLaws
pub mod EntryLaws
pub mod ChunkLaws
pub mod RowLaws
pub mod DecodeLaws
pub mod ExactLaws
pub mod WorkedLaws
pub mod Counts
