pub use Rattle.lowered_layouts.specs.lowered_resources.Places
pub use Rattle.lowered_layouts.specs.lowered_resources.Putting
pub use Rattle.lowered_layouts.specs.lowered_resources.Reading
