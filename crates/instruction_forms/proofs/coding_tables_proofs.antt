pub use Rattle.coding_tables.proofs.Heights
pub use Rattle.coding_tables.proofs.Levels
pub use Rattle.coding_tables.proofs.Owning
