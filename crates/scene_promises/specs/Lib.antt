pub mod Agreeing
pub mod Sharing
pub mod Listings
pub mod Homes
pub mod Ends
pub mod ItemsThere
pub mod Named
