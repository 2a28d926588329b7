pub mod FaultCode
pub mod Answering
pub mod Session
pub mod Own
pub mod Laws
pub mod inside
