pub mod Orders
pub mod Results
pub mod Neighbours
pub mod Sound
pub mod Observers
