pub mod Closings
pub mod Handling
pub mod Releases
