pub mod Desk
pub mod Lends
pub mod Requests
pub mod calls
pub mod questions
pub mod votes
