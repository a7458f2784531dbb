-- What the contracts of the crate cite.
pub mod Plan
pub mod Events
pub mod SiteState
pub mod Discrete
pub mod Timestep
pub mod Demand
pub mod Fleets
pub mod EvenShares
pub mod HotDay
pub mod Code
