pub use Rattle.description_places.specs.Places
