pub mod Place
pub mod Memory
pub mod Laws
pub mod inside
