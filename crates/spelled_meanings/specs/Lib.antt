pub mod Tests
pub mod lowered_behaviors
pub mod lowered_words
pub mod meaning_promises
