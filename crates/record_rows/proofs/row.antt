pub mod Cells
pub mod Compared
