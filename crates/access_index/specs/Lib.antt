pub mod Listing
pub mod Governing
pub mod Reach
-- internal: cited by private clauses alone
pub mod Tables
pub mod Index
