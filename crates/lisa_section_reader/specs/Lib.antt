pub mod Lists
pub mod Resources
pub mod Declares
pub mod Codings
pub mod Syntaxes
