pub mod Relaxing
pub mod Settling
pub mod Links
pub mod Least
pub mod Descent
