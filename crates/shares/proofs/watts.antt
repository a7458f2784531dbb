pub mod Floor
pub mod Units
