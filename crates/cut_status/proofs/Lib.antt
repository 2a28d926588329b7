pub mod Headers
pub mod Readings
pub mod Counting
pub mod OneStatus
pub mod Printing
