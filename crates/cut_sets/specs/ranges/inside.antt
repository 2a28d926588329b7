-- How `ranges` keeps its values, and what its private functions promise: no contract of a public function cites it.
pub mod Blocks
pub mod Edges
pub mod EdgesInside
pub mod SectionInside
pub mod SetInside
