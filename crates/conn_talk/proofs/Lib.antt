-- for the crates above too
pub mod AtEndLemmas
pub mod HeardLemmas
pub mod ItemLemmas
pub mod ListLemmas
pub mod PieceLemmas
pub mod RefusedLemmas
pub mod TalksLemmas
pub mod TurnLemmas
pub mod WalkLemmas
pub mod WritesLemmas
