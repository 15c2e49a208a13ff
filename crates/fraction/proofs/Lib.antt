pub mod Divisors
pub mod Fractions
pub mod Bounds
pub mod Extremes
pub mod Reordered
