pub mod Risen
pub mod LineLaws
pub mod RoundLaws
