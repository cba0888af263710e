pub mod Reassembled
