pub use Rattle.lowered_layouts.specs.Ends
pub use Rattle.lowered_layouts.specs.Items
pub use Rattle.lowered_layouts.specs.Temps
