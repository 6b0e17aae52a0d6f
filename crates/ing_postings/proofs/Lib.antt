pub mod Posted
pub mod Chosen
pub mod Numbers
pub mod Places
pub mod Narrowed
pub mod PostingSets
pub mod Walked
