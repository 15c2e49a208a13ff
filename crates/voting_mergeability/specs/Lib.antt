pub mod Mergeability
pub mod Counted
pub mod Examples
pub mod Argument
