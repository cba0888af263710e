pub mod Bits
pub mod Trees
pub mod Forms
pub mod Values
pub mod Words
