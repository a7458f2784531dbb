-- What the contracts of the crate cite.
pub mod ChargerState
pub mod Power
pub mod Parked
pub mod EvenShares
pub mod Code
