pub mod ReasonLine
pub mod Rows
