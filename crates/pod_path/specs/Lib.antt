pub mod Characters
pub mod Escapes
pub mod Norm
pub mod Hierarchy
-- internal: cited by private clauses alone
pub mod EscapeFaults
