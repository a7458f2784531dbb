-- What the contracts of the crate cite.
pub mod Watts
pub mod Shares
pub mod Fair
pub mod Code
