pub use Rattle.access_counts.specs.Ledgers
