pub mod Added
pub mod Written
pub mod Drafts
pub mod Answers
