mod CountLaws
mod DraftLaws
mod HeldLaws
mod LedgerLaws
mod ServedLaws
-- what crates above need of the crates below
pub use Rattle.ing_session.proofs.EndingsLaws
pub use Rattle.ing_session.proofs.KnownLaws
pub use Rattle.ing_session.proofs.RunsLaws
