-- How cut_detector keeps its values, and what its private functions promise: no contract of a public function cites it.
pub mod Gains
pub mod Inside
pub mod Masks
pub mod Tally
