pub mod Splitting
pub mod AgentWords
pub mod Numbers
pub mod Soundness
pub mod Written
pub mod Spelled
pub mod ReadingLaws
mod Limits
