-- The vocabulary of refinement: what the contracts of inner functions cite beside the rules.
pub mod Events
pub mod Simulation
pub mod Steps
