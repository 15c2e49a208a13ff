pub mod Spelling
pub mod Form
pub mod Words
pub mod Fit
pub mod decimal
