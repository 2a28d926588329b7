-- How cut_machines keeps its values, and what its private functions promise: no contract of a public function cites it.
pub mod JoinCommand
pub mod JoinSources
pub mod JoinTarget
pub mod Share
