mod OfferLaws
mod GatherLaws
mod StoredLaws
mod FlatLaws
mod AnswerLaws
mod NumberLaws
mod OnceLaws
mod DrawnLaws
