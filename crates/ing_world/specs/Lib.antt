pub mod Coded
pub mod Held
pub mod Receipts
pub mod Turns
pub mod Worlds
