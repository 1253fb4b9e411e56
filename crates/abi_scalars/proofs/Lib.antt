pub mod Identifiers
pub mod Digits
pub mod Fronts
pub mod Ascii
