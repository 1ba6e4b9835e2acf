pub mod AncestorLists
pub mod Searches
pub mod Within
pub mod Governance
pub mod OrderedTables
pub mod Resolving
pub mod Kept
-- internal
mod AclSubjects
