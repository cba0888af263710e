pub use Rattle.description_graph.specs.Circles
