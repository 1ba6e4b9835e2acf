pub mod Sides
pub mod Stores
pub mod PairState
pub mod PairJournal
pub mod Checkpointed
pub mod PairMoments
pub mod Repaired
pub mod Causes
pub mod PairLaws
pub mod Doubts
pub mod Together
pub mod Writes
-- internal: cited by private clauses alone
pub mod Choices
