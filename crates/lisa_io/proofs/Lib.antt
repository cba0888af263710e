pub mod Failing
pub mod Found
pub mod GatheredLemmas
pub mod Known
pub mod Taken
pub mod ReadWhole
