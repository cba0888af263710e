pub mod ActSound
pub mod ActEquation
pub mod ActComplete
pub mod ActLoop
