pub mod TripleLemmas
pub mod NamedLemmas
pub mod Namings
pub mod Counting
pub mod OneAnswer
