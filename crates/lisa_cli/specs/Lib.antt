pub mod Files
pub mod Gives
pub mod Worlds
pub mod Runs
pub mod Headline
pub mod Sent
pub mod Statuses
