pub mod Signs
pub mod Says
pub mod Puts
pub mod Ends
pub mod RoundTrip
