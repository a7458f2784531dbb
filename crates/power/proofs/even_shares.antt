pub mod AmongFree
pub mod Deals
pub mod Evenly
