pub mod Changes
pub mod hidden
