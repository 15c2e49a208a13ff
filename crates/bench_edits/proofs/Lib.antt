pub mod United
pub mod Rows
