pub mod Count
pub mod Tallied
pub mod Counting
