mod AnswerLaws
mod CallLaws
pub mod ClosingLaws
pub mod Handing
pub mod Once
mod PlaceLaws
pub mod PusherLaws
pub mod Sealed
pub mod Selected
pub mod VerdictLaws
pub mod RoundLaws
mod WaitingLaws
-- what crates above need of the crates below
pub use Rattle.ing_begun.proofs.Lists
