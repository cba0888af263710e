pub mod Apart
pub mod Placed
pub mod Children
