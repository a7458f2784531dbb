pub mod Rising
pub mod ByPlace
