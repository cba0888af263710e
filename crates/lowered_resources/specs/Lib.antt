pub mod Places
pub mod Reading
pub mod Putting
pub mod Holding
pub mod Code
pub mod Laws
pub mod meaning_promises
