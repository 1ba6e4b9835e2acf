-- the command of words: how words are written, and the reading of words
pub mod Spelling
pub mod Given
pub mod Readings
-- the settings of words
pub mod PoddReadings
-- internal: cited by private clauses alone
pub mod Givens
