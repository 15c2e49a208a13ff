pub mod Index
pub mod Named
