pub mod Past
pub mod Gives
pub mod Reading
pub mod StmtReading
pub mod StmtGives
pub mod Places
pub mod Turned
