pub mod Begun
pub mod Recovering
-- what its clauses, and those of its callers, speak of in the crates below
pub use Rattle.ing_durable.specs.Books
pub use Rattle.ing_durable.specs.Calls
pub use Rattle.ing_durable.specs.Catalog
pub use Rattle.ing_durable.specs.Closed
pub use Rattle.ing_durable.specs.Coded
pub use Rattle.ing_durable.specs.Contents
pub use Rattle.ing_durable.specs.FinishFaults
pub use Rattle.ing_durable.specs.Flights
pub use Rattle.ing_durable.specs.Kept
pub use Rattle.ing_durable.specs.NodeFault
pub use Rattle.ing_durable.specs.NodeFaults
pub use Rattle.ing_durable.specs.Op
pub use Rattle.ing_durable.specs.Picked
pub use Rattle.ing_durable.specs.RecoverFault
pub use Rattle.ing_durable.specs.Sealing
pub use Rattle.ing_durable.specs.ShardCoded
pub use Rattle.ing_durable.specs.Unsynced as UnsyncedRecords
pub use Rattle.ing_durable.specs.declared.unsynced.Unsynced
