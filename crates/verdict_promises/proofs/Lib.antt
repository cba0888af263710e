pub mod Same
mod FormFirsts
mod CodedFirsts
pub mod Firsts
pub mod Stages
mod Undenied
mod SettledTables
mod ConditionTotals
mod FormTotals
mod Totals
mod Numbered
mod Numbers
