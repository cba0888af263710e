mod Samples
pub mod Operands
pub mod OperandLines
pub mod FormTexts
pub mod Numbers
pub mod Sharing
pub mod Made
pub mod Placing
pub mod Ordering
pub mod Shown
pub mod Lined
pub mod Texts
pub mod Widths
pub mod Instructed
mod LineBytes
mod Showing
mod TextLines
pub mod Again
pub mod OneText
pub mod form_patterns_proofs
pub mod form_promises_proofs
pub mod lisa_forms_proofs
pub mod lisa_machine_proofs
