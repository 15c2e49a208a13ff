pub mod Faults
pub mod Sums
pub mod Steps
pub mod Ends
pub mod Rows
pub mod Exactly
pub mod Reordered
