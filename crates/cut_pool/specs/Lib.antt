pub mod Faults
pub mod Running
pub mod Emission
pub mod Leaving
pub mod inside
