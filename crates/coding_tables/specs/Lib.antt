pub mod Codings
pub mod Instructions
pub mod Products
pub mod Ways
pub mod coded_names
pub mod coding_checks
pub mod description_graph
pub mod lisa_words
