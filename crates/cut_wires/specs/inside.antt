-- How cut_wires keeps its values, and what its private functions promise: no contract of a public function cites it.
pub mod Faulty
pub mod Memory
pub mod Streams
