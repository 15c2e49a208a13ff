pub mod Paths
pub mod Reasons
pub mod Costs
pub mod Aimed
pub mod Searches
pub mod Given
pub mod Meeting
