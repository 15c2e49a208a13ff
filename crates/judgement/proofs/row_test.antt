pub mod Seating
pub mod Fitting
