pub mod Proposal
pub mod Bundle
pub mod Tally
