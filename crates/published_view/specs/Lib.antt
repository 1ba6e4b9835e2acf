pub mod VersionWithList
pub mod LookerState
-- internal: cited by private clauses alone
pub mod LookSteps
pub mod ListRule
pub mod Copies
