pub use Rattle.generated_programs.proofs.Widths
