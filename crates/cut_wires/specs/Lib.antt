pub mod Log
pub mod Memory
pub mod Faulty
pub mod Streams
pub mod Sending
pub mod Rows
pub mod inside
