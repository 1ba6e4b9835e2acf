-- kept for the crates above
pub mod WorldLists
-- internal
mod WorldSessions
mod WorldLaw
mod NextEntries
mod RecordedEntries
mod CrashImages
