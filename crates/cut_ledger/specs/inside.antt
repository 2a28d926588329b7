-- How cut_ledger keeps its values, and what its private functions promise: no contract of a public function cites it.
pub mod DivisionInside
pub mod HeldTrials
pub mod LedgerInside
pub mod Reached
pub mod RunInside
pub mod TallyInside
