-- Laws that the functions of the module and of others cite.
pub mod Rounds
pub mod Steps
pub mod History
