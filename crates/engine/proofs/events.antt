pub mod Before
pub mod Order
pub mod Push
pub mod Generated
