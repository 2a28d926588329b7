-- How cut_progress keeps its values: no contract of a public function cites it.
pub mod Counts
