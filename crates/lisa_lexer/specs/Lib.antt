pub mod Reserved
pub mod Signs
pub mod Lexing
pub mod Answers
pub mod Written
