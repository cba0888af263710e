pub mod Literals
pub mod Scopes
pub mod Places
pub mod Doubles
