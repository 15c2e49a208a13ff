pub mod Reasons
pub mod Given
pub mod Costs
pub mod Aims
