-- Laws that the functions of the module and of others cite.
pub mod Connectors
pub mod Told
