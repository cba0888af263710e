pub mod Positions
pub mod Lists
pub mod Fields
pub mod Numbers
pub mod Entries
pub mod Found
pub mod Rows
pub mod Wholes
