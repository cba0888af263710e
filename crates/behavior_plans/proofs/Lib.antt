pub mod Blanks
pub mod Blocks
pub mod Cells
pub mod Keeping
pub mod Loops
