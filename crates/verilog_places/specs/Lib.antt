pub mod Trees
pub mod Spelling
pub mod WidePlaces
pub mod Clocks
