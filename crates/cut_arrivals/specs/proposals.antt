pub mod Times
pub mod Rising
pub mod Candidates
pub mod Reception
pub mod Values
pub mod Laws
