-- How cut_alerts keeps its values, and what its private functions promise: no contract of a public function cites it.
pub mod Given
pub mod Suspects
