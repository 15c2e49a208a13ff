pub mod Suggest
pub mod Crossed
