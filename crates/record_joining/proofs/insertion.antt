pub mod Places
pub mod Moves
pub mod Tables
