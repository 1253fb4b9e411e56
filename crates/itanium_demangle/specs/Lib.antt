pub mod Meaning
pub mod Readers
pub mod Demangler
pub mod Examples
pub mod LastResult
