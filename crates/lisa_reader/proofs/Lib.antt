pub mod SkipLaws
pub mod PartLaws
pub mod SectionLaws
pub mod OperationLaws
pub mod DescriptionLaws
pub mod ByteLaws
