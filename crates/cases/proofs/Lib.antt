-- The theorem over the list of cases.
pub mod Worked
