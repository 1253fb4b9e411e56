pub mod Loops
pub mod Texts
pub mod Unfold
pub mod Turns
pub mod Rules
