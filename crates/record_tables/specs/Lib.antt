pub mod Table
pub mod Checked
