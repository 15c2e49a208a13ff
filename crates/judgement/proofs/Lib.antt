pub mod Listing
pub mod Judging
