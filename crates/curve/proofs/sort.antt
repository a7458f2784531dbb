pub mod Order
pub mod Sorted
pub mod Held
