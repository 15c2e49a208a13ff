pub mod Entries
pub mod Shelves
pub mod Chips
pub mod Changes
