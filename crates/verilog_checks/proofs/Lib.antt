pub mod Views
pub mod UseLaws
pub mod Firsts
pub mod Members
pub mod BrokenRules
pub mod Surveys
