pub mod Designs
pub mod Clocks
pub mod Unread
pub mod DesignViews
