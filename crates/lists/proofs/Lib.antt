pub mod Tests
pub mod Logic
pub mod Lists
pub mod Front
pub mod Arrays
pub mod Made
pub mod Order
pub mod Union
