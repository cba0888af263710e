pub mod Agreements
pub mod Refused
