pub use Rattle.description_graph.proofs.Hits
pub use Rattle.description_graph.proofs.Meant
pub use Rattle.description_graph.proofs.Nodes
pub use Rattle.description_graph.proofs.Numbered
