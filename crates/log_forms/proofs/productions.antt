pub mod Reading
pub mod Choosing
pub mod Unambiguous
