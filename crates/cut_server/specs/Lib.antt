pub mod Serve
pub mod Histories
pub mod inside
