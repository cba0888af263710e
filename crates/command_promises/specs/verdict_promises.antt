pub use Rattle.verdict_promises.specs.Firsts
