pub mod indexes
pub mod links
