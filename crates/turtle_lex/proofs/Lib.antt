-- kept for the crates above
pub mod ByteLemmas
pub mod LawLemmas
pub mod ListingLemmas
pub mod Matching
pub mod NextLemmas
pub mod TextLemmas
pub mod WrittenLemmas
-- for the proofs of this crate
pub mod BlankLemmas
pub mod CharLemmas
pub mod DelimitedLemmas
pub mod EscapeLemmas
pub mod FirstBytes
pub mod GroupLemmas
pub mod NameLemmas
pub mod NumberLemmas
pub mod OneWayLemmas
pub mod PlainLemmas
pub mod RunLemmas
pub mod TokenLemmas
pub mod Utf8Lemmas
pub mod WordLemmas
