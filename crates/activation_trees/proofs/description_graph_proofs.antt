pub use Rattle.lisa_machine.proofs.description_graph_proofs.Meant
pub use Rattle.lisa_machine.proofs.description_graph_proofs.Nodes
pub use Rattle.lisa_machine.proofs.description_graph_proofs.Numbered
