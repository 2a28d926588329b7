-- How cut_book keeps its values, and what its private functions promise: no contract of a public function cites it.
pub mod Book
pub mod HistoryInside
pub mod Shelf
