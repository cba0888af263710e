pub mod Keys
pub mod NamedValues
pub mod TableViews
