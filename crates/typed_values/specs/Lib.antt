pub mod Words
pub mod Operators
pub mod Expressions
pub mod Effects
pub mod Laws
pub mod Counts
pub mod ResetEffects
pub mod ResetLaws
