pub mod Decided
pub mod Parts
pub mod Streams
