pub mod Uses
pub mod WrongKinds
pub mod Narrowings
