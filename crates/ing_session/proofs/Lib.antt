pub mod LinesLaws
pub mod KnownLaws
mod WritingLaws
pub mod CausesLaws
pub mod FrontsLaws
pub mod RunsLaws
mod StepsLaws
pub mod ObeyLaws
mod PushedLaws
mod TicksLaws
pub mod TakenLaws
pub mod EndingsLaws
pub mod FaultsLaws
