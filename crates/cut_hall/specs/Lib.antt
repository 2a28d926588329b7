pub mod Rows
pub mod Closing
pub mod Hall
