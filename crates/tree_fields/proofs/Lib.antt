mod Ranges
mod Clear
mod Emptied
mod Read
