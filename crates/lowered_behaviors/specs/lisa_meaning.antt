pub use Rattle.scene_paths.specs.lisa_meaning.Cores
