pub mod Heavy
pub mod Lowered
pub mod description_weight
pub mod lisa_machine
pub mod lisa_meaning
pub mod machine_parts
pub mod netlist_rules
