-- What the contracts of the crate cite.
pub mod SessionRules
pub mod Reader
pub mod Accepted
pub mod Totals
pub mod Code
