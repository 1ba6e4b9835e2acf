-- items, and what is found, put, removed and listed among them
pub mod Delimited
pub mod Items
-- internal: cited by private clauses alone
pub mod Borders
pub mod Counts
pub mod Nodes
pub mod Parts
pub mod Seeks
