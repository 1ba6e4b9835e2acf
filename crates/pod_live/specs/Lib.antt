-- what a store represents, and what its sessions do
pub mod Stores
pub mod WorldEvents
pub mod Visits
pub mod Takes
-- internal: cited by private clauses alone
pub mod Locks
pub mod VersionReplies
