pub mod Accepted
pub mod Called
pub mod Fits
pub mod Kept
pub mod Performed
pub mod Running
pub mod Paging
pub mod Runs
