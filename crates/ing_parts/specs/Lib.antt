pub mod Answers
pub mod Kept
pub mod Listings
pub mod Parts
pub mod Questions
