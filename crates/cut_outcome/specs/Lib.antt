pub mod Verdicts
pub mod FastRound
pub mod Outcome
pub mod Sum
pub mod Computed
pub mod Possible
pub mod Laws
pub mod inside
