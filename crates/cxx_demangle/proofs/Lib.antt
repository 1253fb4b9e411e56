pub mod Whole
pub mod Answered
pub mod Examples
