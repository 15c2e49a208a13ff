pub mod Election
pub mod Roll
