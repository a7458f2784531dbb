pub mod Levels
pub mod Laws
pub mod Loops
pub mod LeftOut
