-- What the contracts of the crate cite.
pub mod Read
pub mod Pairs
pub mod Check
pub mod BookSession
pub mod SessionBlocks
pub mod Book
pub mod Totals
pub mod Call
pub mod Demand
pub mod Fleets
pub mod EvenShares
pub mod HotDay
pub mod Code
