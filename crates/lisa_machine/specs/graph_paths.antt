pub use Rattle.graph_paths.specs.Paths
