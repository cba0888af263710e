mod Drawn
pub mod Placing
mod Kept
pub mod DigestRules
pub mod assembler_commands_proofs
pub mod description_commands_proofs
pub mod generated_programs_proofs
pub mod module_commands_proofs
