pub use Rattle.program_declarations.specs.Laws
