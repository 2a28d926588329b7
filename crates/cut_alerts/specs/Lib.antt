pub mod Faults
pub mod Assignment
pub mod Drawn
pub mod Alerted
pub mod Given
pub mod Laws
pub mod inside
