pub mod Faults
pub mod History
pub mod Book
pub mod Shelf
pub mod Kept
pub mod inside
