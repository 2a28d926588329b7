pub mod FaultCode
pub mod Status
pub mod Study
pub mod Laws
pub mod inside
