pub mod Places
pub mod EdgeLemmas
pub mod BlockLemmas
pub mod SpanLemmas
pub mod SetLemmas
pub mod CoverLemmas
