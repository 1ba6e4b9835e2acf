-- kept for the crates above
pub mod CountLemmas
pub mod EachToLemmas
pub mod Prefixes
pub mod RopeLemmas
