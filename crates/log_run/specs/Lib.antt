pub mod Branches
pub mod Effects
pub mod Log
pub mod Running
