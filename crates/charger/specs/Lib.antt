-- What the contracts of the crate cite.
pub mod First
pub mod Lists
pub mod Connector
pub mod Vehicle
pub mod Fleet
pub mod Charger
pub mod Leads
pub mod Code
