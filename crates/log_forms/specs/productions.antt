pub mod Productions
pub mod Words
