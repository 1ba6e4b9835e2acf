pub mod Patch
pub mod Pattern
pub mod PatternOrder
pub mod Solutions
-- internal: cited by private clauses alone, by the impls of `Eq` and `Ord`, and by proofs
pub mod ConnectedComponents
pub mod Lookup
pub mod PatternOrderLaws
pub mod Search
