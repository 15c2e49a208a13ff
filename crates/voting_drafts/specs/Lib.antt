pub mod draft
pub mod ranking
