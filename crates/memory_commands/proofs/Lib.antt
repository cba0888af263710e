mod Finds
mod Named
mod Lookups
mod Spelled
mod EmptyHex
mod EmptyMemh
mod Passes
