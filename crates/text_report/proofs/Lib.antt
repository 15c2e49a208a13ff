pub mod Numbers
pub mod Room
pub mod Reports
pub mod Size
