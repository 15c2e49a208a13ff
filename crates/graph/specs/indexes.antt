pub mod Fit
pub mod Indexed
