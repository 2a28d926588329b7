-- How cut_draws keeps its values, and what its private functions promise: no contract of a public function cites it.
pub mod Packed
pub mod PackedProcesses
