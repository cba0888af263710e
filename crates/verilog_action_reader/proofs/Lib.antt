pub mod ExprFacts
pub mod JoinLaws
pub mod ActionSound
pub mod ActionEquation
pub mod ActionLoop
pub mod ActionComplete
