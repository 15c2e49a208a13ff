pub mod Further
pub mod Elements
pub mod Marks
pub mod Unions
pub mod Records
pub mod Tables
