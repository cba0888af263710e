pub mod Memos
pub mod Naming
pub mod Noting
pub mod Places
pub mod Standing
