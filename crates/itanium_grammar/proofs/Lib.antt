pub mod Progress
pub mod Scopes
pub mod Unambiguous
pub mod Widths
pub mod Agreement
