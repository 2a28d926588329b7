-- How cut_board keeps its values, and what its private functions promise: no contract of a public function cites it.
pub mod Closed
pub mod Rule
pub mod Steps
pub mod Views
pub mod Words
