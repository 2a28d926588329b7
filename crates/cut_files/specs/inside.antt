-- What only private functions of cut_files promise: no contract of a public function cites it.
pub mod Faults
pub mod Memory
