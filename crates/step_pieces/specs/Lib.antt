pub mod Pieces
pub mod Running
pub mod Formed
pub mod Laws
pub mod Drafts
