pub mod Reads
pub mod Exports
pub mod Orders
