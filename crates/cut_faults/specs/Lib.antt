pub mod Codes
pub mod Failures
pub mod Laws
