-- kept for the crates above
pub mod Exact
pub mod Graphs
pub mod LineOrders
pub mod Lookups
pub mod Members
pub mod Prefixes
pub mod Sizes
pub mod Sorted
-- of this crate alone
pub mod Delimiters
pub mod Merging
pub mod SubjectOrder
pub mod SubjectRanges
