pub mod Counting
pub mod Questions
