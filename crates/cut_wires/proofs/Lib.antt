pub mod Logs
pub mod Sendings
pub mod RowLemmas
pub mod StreamLemmas
