pub mod Pieces
pub mod Front
