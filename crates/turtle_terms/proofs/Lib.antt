pub mod Decoding
pub mod Delimiters
pub mod EscapeBounds
pub mod LocalNames
pub mod Meanings
pub mod PrefixLemmas
pub mod Written
