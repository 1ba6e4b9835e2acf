-- kept for the crates above
pub mod Entries
pub mod Snapshots
pub mod ReadSteps
pub mod OpenCauses
pub mod Latest
pub mod Counts
pub mod MadeSteps
pub mod Fine
pub mod Whole
pub mod Replacements
-- internal
mod ReadLoops
mod LoneChanges
