pub mod Peer
pub mod Memory
pub mod System
