pub mod Pieces
pub mod Building
pub mod Lowering
pub mod Laws
pub mod Forming
pub mod Code
