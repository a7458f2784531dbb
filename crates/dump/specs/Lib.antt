-- What the contracts of the crate cite.
pub mod EventBlocks
pub mod Dump
pub mod Call
pub mod Continued
pub mod Code
