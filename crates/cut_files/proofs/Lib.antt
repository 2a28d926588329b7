pub mod Places
pub mod Everywhere
