pub mod Versions
pub mod Fields
pub mod Members
