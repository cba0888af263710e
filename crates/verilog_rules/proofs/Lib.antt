pub mod Apart
pub mod Narrow
pub mod Clockable
