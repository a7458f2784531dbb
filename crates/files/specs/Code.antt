-- The vocabulary of refinement: what the contracts of inner functions cite beside the rules.
pub mod Reading
pub mod Writing
pub mod Running
