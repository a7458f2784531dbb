-- Laws that the functions of the module and of others cite.
pub mod Bytes
pub mod Stored
pub mod Reading
pub mod Dumped
