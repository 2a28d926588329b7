-- How cut_plan keeps its values, and what its private functions promise: no contract of a public function cites it.
pub mod Accepted
pub mod Inside
pub mod Look
pub mod Triples
