pub mod Joined
pub mod Finished
pub mod Proposed
pub mod Bundles
pub mod Elections
pub mod Derived
pub mod Selecting
pub mod Told
