pub mod ChannelsLaws
pub mod StartingLaws
pub mod OwnLaws
