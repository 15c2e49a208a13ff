pub mod Making
pub mod Aiming
pub mod Ringing
pub mod Giving
