pub mod Lexed
pub mod Bodies
pub mod Outer
pub mod Found
pub mod Standing
