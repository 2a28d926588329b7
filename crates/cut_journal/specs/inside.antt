-- How cut_journal keeps its values, and what its private functions promise: no contract of a public function cites it.
pub mod Adding
pub mod File
pub mod Opening
pub mod Places
pub mod Steps
pub mod UnreadInside
