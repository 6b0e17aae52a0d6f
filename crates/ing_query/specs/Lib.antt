pub mod Answers
pub mod Fetched
pub mod Gathered
pub mod QueryFaults
-- what its clauses speak of in the crates below
pub use Rattle.ing_parts.specs.Answers as PartAnswers
pub use Rattle.ing_parts.specs.Parts
pub use Rattle.ing_parts.specs.declared.found.Found
pub use Rattle.ing_parts.specs.Questions
pub use Rattle.ing_parts.specs.declared.snapshot.Snapshot
