pub mod Searches
pub mod Levels
