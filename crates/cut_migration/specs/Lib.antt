pub mod Migration
pub mod inside
