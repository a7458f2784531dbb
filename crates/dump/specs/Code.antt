-- The vocabulary of refinement: what the contracts of inner functions cite beside the rules.
pub mod Dumping
