pub mod Component
pub mod Lengths
