pub mod Commands
pub mod LineLemmas
pub mod ShareLemmas
