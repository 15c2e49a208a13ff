pub mod Grammar
pub mod Groups
