-- kept for the crates above
pub mod BindingSteps
pub mod Candidates
pub mod Patching
pub mod SearchResults
pub mod Solving
-- of this crate alone
pub mod Components
pub mod InstanceSizes
pub mod Instancing
