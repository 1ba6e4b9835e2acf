-- the stem of a slug, the name that is chosen, and a law
pub mod Stems
pub mod Names
pub mod Laws
-- internal: cited by private clauses alone
pub mod PlainTexts
pub mod TakenNotes
