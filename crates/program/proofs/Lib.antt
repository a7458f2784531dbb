-- Laws of the program's output.
pub mod Text
pub mod Answered
