-- Laws of the plan that is fine and of the book, which the crates above cite.
pub mod Accepted
pub mod SessionsIn
pub mod ReadBack
