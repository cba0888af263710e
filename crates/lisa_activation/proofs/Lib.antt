pub mod Stages
pub mod Places
pub mod Agree
pub mod Coming
