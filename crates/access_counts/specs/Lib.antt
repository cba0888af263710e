pub mod Accesses
pub mod Unfolded
pub mod Ledgers
pub mod Rounds
