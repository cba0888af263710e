mod Faulty
mod Settling
mod FormVerdicts
mod InstructionVerdicts
pub mod Listed
mod Tooled
mod Imaging
pub use Rattle.lisa_reader.proofs as lisa_reader_proofs
