pub mod Numbers
pub mod Arms
pub mod Exchanged
pub mod Lines
