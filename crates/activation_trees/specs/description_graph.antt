pub use Rattle.lisa_machine.specs.description_graph.Circles
