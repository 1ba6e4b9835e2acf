pub mod Vocabulary
pub mod Documents
pub mod Rules
pub mod Statements
-- internal: cited by private clauses alone
pub mod Building
