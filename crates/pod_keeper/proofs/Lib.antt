-- kept for the crates above: the moment of a change at the end of a history, the versions at the
-- ends of histories, and what a commit is as an item of a run
pub mod Stamps
pub mod HistoryLaws
pub mod TakenItems
mod Reopening
-- internal
mod NewStore
mod Opened
mod Places
mod Storing
mod Doubting
mod Committed
mod EnteredEntries
mod Standing
mod Carried
mod EventRuns
mod Checkpoints
mod StepMoments
