pub mod Items
pub mod Tables
pub mod Ranks
pub mod Rows
pub mod Nodes
pub mod Staged
pub mod Stages
pub mod Verdicts
