-- Laws that the functions of the module and others cite.
pub mod Laws
pub mod Within
