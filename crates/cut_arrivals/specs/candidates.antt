pub mod KeyPlaces
pub mod Candidates
pub mod inside
