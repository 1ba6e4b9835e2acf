-- What public clauses cite, here and in the crates above.
pub mod Counts
pub mod EachTo
pub mod Fields
pub mod Lending
pub mod Listed
pub mod Texts
