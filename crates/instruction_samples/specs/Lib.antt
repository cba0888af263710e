pub mod lisa_forms
pub mod lisa_syntax
