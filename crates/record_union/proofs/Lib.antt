pub mod Joining
pub mod Records
