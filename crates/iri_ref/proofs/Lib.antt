-- kept for the crates above
pub mod Texts
pub mod Schemes
pub mod Paths
pub mod PathWriting
-- of this crate alone
pub mod UniqueSplits
pub mod Splits
pub mod Dots
pub mod Resolving
pub mod Written
