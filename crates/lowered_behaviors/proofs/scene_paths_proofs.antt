pub use Rattle.scene_paths.proofs.Above
