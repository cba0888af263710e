pub use Rattle.description_places.specs.Places
pub use Rattle.description_places.specs.Scopes
pub use Rattle.description_places.specs.declared
