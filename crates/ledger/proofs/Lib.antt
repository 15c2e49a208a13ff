pub mod Valid
pub mod House
pub mod Undone
pub mod Told
pub mod Pages
pub mod Alike
