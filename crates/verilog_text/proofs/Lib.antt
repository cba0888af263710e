pub mod Views
pub mod PutLaws
pub mod SpelledTokens
pub mod OpenBrackets
pub mod TokenContents
pub mod WrittenTexts
pub mod TextSizes
pub mod PrintedModules
