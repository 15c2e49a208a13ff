pub mod Signed
pub mod Landed
