-- kept for the crates above
pub mod DoubtCases
pub mod Splits
pub mod Once
pub mod Records
pub mod AppendRuns
pub mod Classifying
pub mod Mending
-- internal
mod Writing
mod GateWrites
mod WriteRuns
mod HeadBytes
mod ReadRuns
mod WindowReads
mod FrameReads
mod WalkSteps
mod OpenRuns
mod RenewRuns
