pub mod Migrations
pub mod Truths
