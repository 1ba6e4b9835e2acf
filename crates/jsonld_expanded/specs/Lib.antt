pub mod Vocabulary
pub mod Nodes
pub mod Literals
pub mod Expands
pub mod Laws
pub mod Outcomes
pub mod Runs
pub mod Sorted
pub mod Document
pub mod ReadsBack
-- internal: cited by private clauses alone
pub mod Walks
pub mod Written
pub mod Widths
