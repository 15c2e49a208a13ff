pub mod Text
pub mod Said
