pub mod options
pub mod Line
pub mod inside
