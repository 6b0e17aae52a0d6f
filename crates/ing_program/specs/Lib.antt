pub mod Channels
pub mod Ended
pub mod Starting
