pub mod Known
pub mod Naming
pub mod Judging
