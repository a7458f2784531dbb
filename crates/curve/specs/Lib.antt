-- What the contracts of the crate cite.
pub mod F64
pub mod Limits
pub mod Curve
pub mod HotDay
pub mod Code
