pub mod Common
pub mod Moves
pub mod Absent
