pub mod Opened
pub mod schedules
