pub mod FaultCode
pub mod Table
pub mod inside
