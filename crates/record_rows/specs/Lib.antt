pub mod element
pub mod grounds
pub mod row
