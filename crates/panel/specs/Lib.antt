-- What the contracts of the crate cite.
pub mod Registers
pub mod Events
pub mod Image
pub mod Panel
pub mod Script
pub mod History
pub mod Call
pub mod Promises
pub mod Code
