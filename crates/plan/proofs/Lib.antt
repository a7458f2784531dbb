-- Laws of the definitions, stated once.
pub mod SearchLaws
