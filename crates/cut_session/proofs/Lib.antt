pub mod Turns
pub mod Tables
pub mod SessionTraces
pub mod Failing
pub mod Feeding
pub mod Owned
