pub mod Rule
pub mod Counts
pub mod Proposal
pub mod Masks
pub mod State
pub mod Laws
pub mod inside
