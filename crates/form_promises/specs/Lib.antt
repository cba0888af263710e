pub mod description_graph
pub mod form_texts
pub mod instruction_texts
pub mod kind_checks
pub mod least_fixed_points
pub mod lisa_machine
pub mod spelled_promises
