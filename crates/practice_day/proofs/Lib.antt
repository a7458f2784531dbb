-- Laws of the program's output.
pub mod Answered
