pub use Rattle.stage_checks.proofs.Nodes
