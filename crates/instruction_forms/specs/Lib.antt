pub mod Trees
pub mod Described
pub mod Picks
pub mod Widths
pub mod Naming
pub mod coded_names
pub mod coding_checks
pub mod coding_tables
