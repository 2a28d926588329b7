-- How cut_trial keeps its values, and what its private functions promise: no contract of a public function cites it.
pub mod BallotInside
pub mod Counted
pub mod Judging
