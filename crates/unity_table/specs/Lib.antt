pub mod Unity
pub mod Summed
