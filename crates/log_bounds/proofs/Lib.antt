pub mod Small
pub mod Sizes
pub mod Numbers
pub mod Bounds
pub mod Lengths
