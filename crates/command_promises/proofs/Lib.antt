pub mod Afters
mod Tasks
mod Runs
pub mod Refused
pub mod RefusedPrograms
pub mod RefusedTools
mod Decided
mod DecidedFiles
mod DecidedTools
mod Singles
