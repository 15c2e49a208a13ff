pub mod NameMarks
pub mod ReasonForms
pub mod Explained
pub mod Size
pub mod Shown
