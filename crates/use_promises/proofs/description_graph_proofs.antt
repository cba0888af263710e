pub use Rattle.lisa_machine.proofs.description_graph_proofs.Hits
