mod ObjectFiles
mod Digested
mod Powers
pub mod MemoryRules
mod Linked
mod ListingEnds
mod LineCounts
mod Sourced
mod SourceImages
pub mod checked_descriptions_proofs
