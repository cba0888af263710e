mod Kept
mod Agreed
