pub mod NamedUpdate
pub mod Laws
pub mod UpdateSpells
pub mod UpdateFaults
-- internal: cited by private clauses alone
pub mod Progress
pub mod Reading
