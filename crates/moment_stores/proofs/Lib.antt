pub mod Marks
pub mod Noted
pub mod CellLemmas
pub mod Tables
pub mod LocalLemmas
pub mod Closing
pub mod Fits
pub mod Kept
