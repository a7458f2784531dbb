-- Laws that the functions of the module and of others cite.
pub mod Pushes
pub mod SameRules
pub mod RunStands
pub mod Booked
