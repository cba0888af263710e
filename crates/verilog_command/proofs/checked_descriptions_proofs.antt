pub use Rattle.checked_descriptions.proofs.Listed
