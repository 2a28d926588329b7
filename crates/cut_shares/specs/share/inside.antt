-- How `share` keeps its values, and what its private functions promise: no contract of a public function cites it.
pub mod Batches
pub mod PieceParts
pub mod Pieces
pub mod Running
pub mod Tasks
