pub mod FirstLaws
pub mod OrderLaws
pub mod TextLaws
pub mod ClockLaws
pub mod OutcomeLaws
