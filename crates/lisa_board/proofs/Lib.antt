pub mod RowLists
pub mod Counters
pub mod Feeds
pub mod Seeing
pub mod Running
pub mod BoardFits
pub mod BoardReads
pub mod RunLaws
