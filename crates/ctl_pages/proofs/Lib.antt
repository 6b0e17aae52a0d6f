pub mod ReplyLaws
pub mod PlaceLaws
pub mod ListLaws
pub mod PageLaws
pub mod AnswerLaws
