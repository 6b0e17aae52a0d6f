pub mod Sums
pub mod Least
pub mod Numbers
pub mod Ranges
mod First
mod Tenants
mod DurationTexts
