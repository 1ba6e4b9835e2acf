pub mod Escapes
pub mod Laws
pub mod Meaning
pub mod Prefixes
pub mod Values
pub mod Vocabulary
-- internal: cited by private clauses alone
pub mod EscapeBound
pub mod Faults
