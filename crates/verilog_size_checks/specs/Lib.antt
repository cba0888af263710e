pub mod Answers
pub mod Sought
pub mod Scopes
