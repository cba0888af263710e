pub use Rattle.description_sizes.proofs.Chosen
pub use Rattle.description_sizes.proofs.Limited
pub use Rattle.description_sizes.proofs.Rising
pub use Rattle.description_sizes.proofs.Sums
