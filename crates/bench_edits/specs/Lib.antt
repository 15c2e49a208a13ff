pub mod Joins
pub mod visibility
