pub mod ranks
pub mod blocks
pub mod lanes
pub mod proposals
pub mod candidates
pub mod receivers
