pub mod Received
pub mod LaneVerdicts
pub mod Places
pub mod inside
