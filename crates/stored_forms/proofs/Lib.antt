-- kept for the crates above
pub mod Deciders
pub mod Forms
pub mod ReadLaws
-- of this crate alone
pub mod Loops
pub mod Sizes
pub mod Whole
