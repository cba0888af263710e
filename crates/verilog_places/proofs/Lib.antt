pub mod PlaceLaws
pub mod BareSpellings
pub mod PlacedSpellings
pub mod RowViews
pub mod ListSteps
pub mod StripLaws
