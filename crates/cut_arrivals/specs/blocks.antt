pub mod Images
pub mod inside
