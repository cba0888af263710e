pub use Rattle.generated_programs.specs.Programs
