-- Laws that the functions of the module and of others cite.
pub mod Noticed
pub mod Stands
pub mod ImageBytes
