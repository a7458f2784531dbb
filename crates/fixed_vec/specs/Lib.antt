pub mod FixedVec
pub mod Cells
pub mod Lends
