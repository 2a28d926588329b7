-- How cut_server keeps its values, and what its private functions promise: no contract of a public function cites it.
pub mod Serve
pub mod Shelf
pub mod Socket
