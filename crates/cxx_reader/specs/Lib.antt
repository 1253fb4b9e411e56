pub mod Outcome
pub mod Unbound
pub mod Sources
pub mod Rows
