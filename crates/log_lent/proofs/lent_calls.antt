pub mod FirstRows
pub mod Given
pub mod Named
