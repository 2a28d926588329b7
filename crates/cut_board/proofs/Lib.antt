pub mod Additions
pub mod Allowed
pub mod Ends
pub mod Keeps
pub mod Lists
pub mod Logs
