pub mod Joins
pub mod Ordered
