-- what public clauses cite: one connection of many, the connections of many gates, and a run of
-- `podd`
pub mod Upgrades
pub mod WorldRuns
pub mod Served
pub mod Connections
pub mod Desks
pub mod RunHosts
pub mod PoddRuns
-- internal: cited by private clauses alone
pub mod Serving
pub mod Turns
pub mod ServingLaws
pub mod PoddSteps
