pub mod Checks
pub mod Mends
pub mod Shows
