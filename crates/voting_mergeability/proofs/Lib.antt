pub mod Prefixes
pub mod Votes
pub mod United
pub mod Mergeability
pub mod Counted
pub mod Proposals
pub mod Examples
