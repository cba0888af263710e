pub use Rattle.lisa_disasm.specs.Listings
