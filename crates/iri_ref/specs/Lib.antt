pub mod Characters
pub mod Components
pub mod Segments
pub mod Resolution
pub mod Written
-- internal: cited by private clauses alone
pub mod Reference
pub mod PathWriter
pub mod Target
