-- which texts are bodies, and what a payload represents
pub mod Bodies
pub mod Chunks
pub mod PayloadState
pub mod BodyBytes
pub mod Laws
-- internal: cited by private clauses alone
pub mod ChunkLines
pub mod Steps
