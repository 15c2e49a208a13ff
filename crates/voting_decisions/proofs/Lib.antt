pub mod Paging
pub mod Joined
