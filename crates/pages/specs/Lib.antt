pub mod Pages
pub mod Steps
