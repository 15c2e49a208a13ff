pub mod Divisor
pub mod Fraction
pub mod Bounded
