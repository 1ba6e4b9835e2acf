pub mod AlikeAnswers
pub mod Answered
pub mod Histories
pub mod LongerSessions
