pub mod Kinds
pub mod Frames
pub mod Reading
pub mod Asking
pub mod FaultCode
pub mod Laws
pub mod inside
