pub use Rattle.checked_descriptions.specs.Checked
pub use Rattle.checked_descriptions.specs.DescriptionImages
pub use Rattle.checked_descriptions.specs.Descriptions
pub use Rattle.checked_descriptions.specs.Instructions
pub use Rattle.checked_descriptions.specs.ToolViews
