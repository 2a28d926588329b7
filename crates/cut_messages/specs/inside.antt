-- How cut_messages keeps its values, and what its private functions promise: no contract of a public function cites it.
pub mod Asking
pub mod Listening
pub mod Prefixes
