pub mod share
pub mod join
