pub mod Graph
pub mod Circles
