-- a world as a value: the definition's world, what a step of it is, and what holds after events
pub mod Worlds
pub mod Runs
-- internal: cited by private clauses alone
pub mod Connections
pub mod Phases
pub mod Keepers
pub mod Answers
pub mod Images
pub mod Reads
pub mod Parts
