pub mod Headline
pub mod Files
pub mod Replayed
