pub use Rattle.lowered_edges.specs.Code
pub use Rattle.lowered_edges.specs.Laws
pub use Rattle.lowered_edges.specs.Programs
