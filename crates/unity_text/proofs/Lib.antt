pub mod Reading
pub mod Faults
pub mod Lines
pub mod Printing
pub mod Limit
pub mod Size
pub mod RoundTrip
