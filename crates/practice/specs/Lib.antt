-- What the contracts of the crate cite.
pub mod Xorshift
pub mod PracticePlan
pub mod Call
pub mod Promises
