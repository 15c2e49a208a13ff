pub mod Grounds
pub mod Walks
pub mod Loop
pub mod Accepted
pub mod Decoded
pub mod Small
