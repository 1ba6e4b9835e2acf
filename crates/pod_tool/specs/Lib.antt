-- What public clauses cite: what the run of each command does.
pub mod Runs
pub mod Fresh
pub mod Loads
pub mod Stores
pub mod Follows
-- internal: cited by private clauses alone
pub mod Texts
