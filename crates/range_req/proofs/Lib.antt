pub mod NumberLemmas
pub mod RangeLemmas
pub mod NoteLemmas
pub mod NumberDigits
pub mod BodyLemmas
