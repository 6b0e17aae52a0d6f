pub mod AllRefusals
pub mod Complete
pub mod FillLaws
pub mod Flawless
pub mod RuleLaws
pub mod Sound
pub mod WalkLaws
