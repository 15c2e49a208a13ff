pub mod Parts
pub mod Reading
pub mod Told
pub mod Explaining
