pub mod Storable
pub mod StoredForms
-- internal: cited by private clauses alone
pub mod Readers
pub mod Reading
