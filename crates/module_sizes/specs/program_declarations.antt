pub use Rattle.lowered_edges.specs.program_declarations.Laws
