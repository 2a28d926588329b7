pub mod bits
pub mod ranges
