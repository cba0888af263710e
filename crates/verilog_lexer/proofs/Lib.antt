pub mod TokenForms
pub mod LongestTokens
pub mod ItemLaws
pub mod LexLaws
pub mod Loop
pub mod NumberLaws
