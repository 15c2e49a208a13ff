pub mod Turn
pub mod turning
