pub mod Signed
pub mod Computing
pub mod Operating
pub mod Forming
pub mod Lowering
pub mod Drafting
