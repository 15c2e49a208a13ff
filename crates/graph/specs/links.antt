pub mod Marks
pub mod Links
pub mod Reach
pub mod Search
pub mod Reversed
pub mod Resolved
