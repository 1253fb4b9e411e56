pub mod Answer
pub mod Demangler
pub mod Examples
pub mod Parts
