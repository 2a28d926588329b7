-- How cut_pool keeps its values, and what its private functions promise: no contract of a public function cites it.
pub mod Conclusion
pub mod Emission
pub mod Faults
pub mod Leaving
