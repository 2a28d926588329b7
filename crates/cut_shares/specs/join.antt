pub mod Joined
pub mod Joining
pub mod Laws
pub mod inside
