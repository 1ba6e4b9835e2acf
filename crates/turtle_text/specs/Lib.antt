pub mod Triples
pub mod Spells
pub mod Faults
pub mod Laws
-- internal: cited by private clauses alone
pub mod Progress
pub mod HasEscape
