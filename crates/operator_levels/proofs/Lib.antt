pub mod StackLaws
pub mod ChainLaws
