-- The paper's bay worked through.
pub mod Bay
pub mod Cases
