pub mod SameCars
pub mod Free
pub mod Passes
pub mod Gaps
pub mod SpinRounds
pub mod Parked
