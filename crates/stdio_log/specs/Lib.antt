pub mod Held
pub mod Streaming
