pub mod Lent
pub mod Listed
pub mod Kept
pub mod lent_calls
pub mod lent_proposals
pub mod lent_tables
