pub mod Counts
pub mod Ends
pub mod RelistFaults
pub mod Same
-- what its clauses speak of in the crates below
pub use Rattle.ing_refusals.specs.declared.relist_fault.RelistFault
