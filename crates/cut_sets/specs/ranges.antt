pub mod Spans
pub mod Held
pub mod Laws
pub mod inside
