pub mod Moves
pub mod Scheduled
