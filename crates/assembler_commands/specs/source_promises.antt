pub use Rattle.source_promises.specs.Programs
