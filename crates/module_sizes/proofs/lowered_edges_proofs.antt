pub use Rattle.lowered_edges.proofs.Worded
