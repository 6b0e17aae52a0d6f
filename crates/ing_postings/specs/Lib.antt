pub mod Streams
pub mod Index
pub mod Held
pub use Rattle.ing_labels.specs.Labels
pub use Rattle.ing_labels.specs.Selectors
