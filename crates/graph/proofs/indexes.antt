pub mod Fit
pub mod Tables
pub mod Resolving
