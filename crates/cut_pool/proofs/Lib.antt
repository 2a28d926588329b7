pub mod Tables
pub mod Conclusions
pub mod Leaving
