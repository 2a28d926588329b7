pub mod Source
pub mod ProcessOrder
pub mod DeliveryOrder
pub mod Laws
pub mod inside
