pub mod Parser
pub mod Outcome
