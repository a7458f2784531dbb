-- Laws that the functions of the module and of others cite.
pub mod Rebuilt
pub mod Taken
pub mod OfRuns
pub mod Promises
pub mod Told
