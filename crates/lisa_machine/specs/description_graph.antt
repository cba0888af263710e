pub use Rattle.description_graph.specs.Circles
pub use Rattle.description_graph.specs.Graph
