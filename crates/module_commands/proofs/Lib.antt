mod Modules
mod Designed
pub mod Stopped
pub mod verilog_reader_proofs
