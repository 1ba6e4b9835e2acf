pub mod Frames
pub mod Heads
pub mod Images
pub mod Gates
pub mod JournalState
pub mod CleanJournal
pub mod Opening
pub mod Writes
pub mod Renewing
pub mod Classes
pub mod Causes
pub mod Sides
pub mod Laws
-- what is reported of a store that isn't opened
pub mod Refusals
-- internal: cited by private clauses alone
pub mod Reading
pub mod Scanning
pub mod Walking
pub mod FirstGates
