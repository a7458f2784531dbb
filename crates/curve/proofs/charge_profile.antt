pub mod Segments
pub mod Laws
pub mod AtPoint
pub mod Interpolation
pub mod PowerClear
pub mod LowerCap
pub mod HotDay
pub mod OtherAverages
