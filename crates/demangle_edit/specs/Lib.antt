pub mod Lists
pub mod Names
pub mod Built
pub mod Types
pub mod Expressions
pub mod Answers
pub mod Calls
