pub mod Keys
pub mod Rowing
