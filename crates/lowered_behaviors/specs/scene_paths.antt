pub use Rattle.scene_paths.specs.Lookups
