pub use Rattle.lowered_layouts.proofs.Items
pub use Rattle.lowered_layouts.proofs.Widths
