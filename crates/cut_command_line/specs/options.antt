pub mod Options
pub mod inside
