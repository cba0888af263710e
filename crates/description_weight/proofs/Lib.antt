pub mod Counting
pub mod Choosing
pub mod Unfolding
pub mod Parts
pub mod description_sizes_proofs
