pub mod State
pub mod Log
pub mod Memory
pub mod Faulty
pub mod OnFile
pub mod Laws
pub mod Folders
pub mod inside
