-- kept for the crates above
pub mod Classing
pub mod StoreOnce
pub mod Beside
pub mod PairRuns
pub mod Pairing
pub mod Checkpointing
pub mod Repairing
pub mod Reopening
pub mod DoubtSteps
pub mod WrittenPairs
pub mod TogetherRuns
-- internal
mod PairOpening
mod Repairs
mod Renewals
mod Appends
