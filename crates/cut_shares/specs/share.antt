pub mod Bounds
pub mod Blocks
pub mod Share
pub mod Laws
pub mod Running
pub mod inside
