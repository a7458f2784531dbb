-- What the contracts of the crate cite.
pub mod Answer
pub mod Bytes
pub mod Blocks
pub mod Search
pub mod Places
pub mod Fields
pub mod Header
pub mod Plan
pub mod Code
