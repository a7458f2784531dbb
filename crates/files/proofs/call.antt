-- Laws that the functions of the module and of others cite.
pub mod RunLaws
pub mod BookDemand
pub mod EvenShares
pub mod Fleets
pub mod Demanded
pub mod HotDay
