mod Scheduled
mod Boarded
mod Replayed
mod Heard
mod Driven
mod WholeInputs
mod Tracing
mod SessionEnds
mod Imaged
pub mod Made
pub mod CutOff
