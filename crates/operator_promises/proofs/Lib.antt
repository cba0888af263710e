pub mod BehaviorLevels
pub mod ModuleLevels
