-- What the contracts of the crate cite.
pub mod LongerPlan
pub mod LateCar
pub mod Call
pub mod Stands
