pub mod Audits
pub mod Crossing
pub mod Openings
pub mod Refused
