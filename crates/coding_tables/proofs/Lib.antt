pub mod FirstRoot
pub mod Owning
pub mod Ways
pub mod Levels
pub mod Counted
pub mod Heights
pub mod description_graph_proofs
