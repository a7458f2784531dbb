-- The vocabulary of refinement: what the contracts of inner functions cite beside the rules.
pub mod Bank
pub mod Rising
pub mod Rounds
pub mod Alone
pub mod Deal
