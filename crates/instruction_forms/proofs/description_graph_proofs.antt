pub use Rattle.coding_tables.proofs.description_graph_proofs.Lists
