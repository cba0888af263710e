pub use Rattle.use_promises.proofs.machine_parts_proofs.Lengths
