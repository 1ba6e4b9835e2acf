-- for the crates above too
pub mod Extending
mod GateLemmas
