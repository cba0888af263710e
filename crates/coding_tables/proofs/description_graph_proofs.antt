pub use Rattle.description_graph.proofs.Lists
pub use Rattle.description_graph.proofs.Nodes
