mod MovedLaws
mod NoteLaws
mod ReadLaws
mod FrontLaws
