mod Ran
mod Flushed
mod FileCounts
mod Watched
