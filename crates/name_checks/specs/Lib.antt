pub mod Doubled
pub mod Unknown
pub mod Marks
