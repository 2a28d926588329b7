pub mod FaultCode
pub mod inside
