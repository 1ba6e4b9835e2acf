-- kept for the crates above: laws of bodies, and prefixes of one text
pub mod LawLemmas
pub mod Prefixes
-- internal
pub mod ByteSteps
pub mod ChunkSteps
pub mod Feeding
pub mod LineFacts
pub mod LineLimits
pub mod LineSteps
pub mod RunSteps
pub mod Representation
pub mod TrailerSteps
pub mod Uniqueness
