pub mod CanonicalTokens
pub mod CanonicalText
pub mod Sheets
pub mod EvenSemantics
