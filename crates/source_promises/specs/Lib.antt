pub mod Programs
pub mod lisa_assembler
