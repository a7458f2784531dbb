-- Laws that other crates cite.
pub mod Laws
pub mod Letters
