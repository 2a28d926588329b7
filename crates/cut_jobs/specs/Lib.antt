pub mod Sending
pub mod Quoted
pub mod Paths
pub mod Jobs
pub mod Program
pub mod inside
