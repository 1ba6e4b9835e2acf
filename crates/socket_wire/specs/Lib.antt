-- What public clauses cite, here and in the crates above.
pub mod Counted
pub mod Passing
pub mod Followed
-- internal: cited by private clauses alone
pub mod PassingLaws
