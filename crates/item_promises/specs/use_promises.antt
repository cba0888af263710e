pub use Rattle.use_promises.specs.Showing
