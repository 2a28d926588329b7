pub mod Layout
pub mod Hashed
pub mod Edges
pub mod Laws
pub mod Faults
pub mod Listed
pub mod inside
