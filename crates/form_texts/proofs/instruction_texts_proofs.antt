pub use Rattle.instruction_texts.proofs.Tiles
