pub mod Voting
pub mod Making
pub mod Tallying
