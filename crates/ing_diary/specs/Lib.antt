pub mod Notes
pub mod Fronts
pub mod Faults
-- what its clauses speak of in the crates below
pub use Rattle.ing_query.specs.Answers
pub use Rattle.ing_query.specs.Fetched
pub use Rattle.ing_query.specs.Gathered
pub use Rattle.ing_query.specs.Found
pub use Rattle.ing_query.specs.PartAnswers
pub use Rattle.ing_query.specs.Parts
pub use Rattle.ing_query.specs.QueryFaults
pub use Rattle.ing_query.specs.Questions
pub use Rattle.ing_query.specs.Snapshot
pub use Rattle.ing_shard.specs.declared.listed.StreamFront
