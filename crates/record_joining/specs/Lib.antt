pub mod insertion
