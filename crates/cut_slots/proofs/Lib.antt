pub mod FullLines
pub mod Apart
pub mod Crossing
pub mod Trusted
pub mod Begun
pub mod Ended
