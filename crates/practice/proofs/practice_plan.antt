-- Laws that the functions of the module and of others cite.
pub mod Stored
pub mod CarBytes
pub mod PlanBytes
pub mod Fields
pub mod Checked
