-- kept for the crates above
pub mod Moments
pub mod TornWrites
-- internal
mod OneMoreCall
mod Crashing
