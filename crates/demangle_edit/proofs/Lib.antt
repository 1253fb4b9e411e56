pub mod Insertions
pub mod Glued
pub mod Built
pub mod Declarators
pub mod Cuts
pub mod Arrays
pub mod Members
mod Digits
