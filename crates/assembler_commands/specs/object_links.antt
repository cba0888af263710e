pub use Rattle.object_links.specs.LineNames
