-- How cut_rings keeps its values, and what its private functions promise: no contract of a public function cites it.
pub mod Inside
pub mod Inverse
pub mod Listed
