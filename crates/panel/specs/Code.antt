-- Refinement: vocabulary of the crate's own functions.
pub mod Seen
