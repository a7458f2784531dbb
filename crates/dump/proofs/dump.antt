-- Laws that the functions of the module and of others cite.
pub mod Starts
pub mod Laws
pub mod Runs
pub mod Passes
pub mod ReadBack
