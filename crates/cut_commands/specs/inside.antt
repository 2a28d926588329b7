-- How cut_commands keeps its values, and what its private functions promise: no contract of a public function cites it.
pub mod Explain
pub mod Migrate
pub mod Run
pub mod Study
