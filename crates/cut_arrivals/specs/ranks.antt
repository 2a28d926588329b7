pub mod Ranks
pub mod Closing
