pub mod Pages
pub mod Turns
pub mod Common
pub mod Entries
pub mod Loops
