pub mod Nodes
pub mod Parts
pub mod Size
pub mod Rules
pub mod Laws
pub mod Spells
pub mod Faults
pub mod Answers
-- internal: cited by private clauses alone
pub mod Progress
pub mod Reading
pub mod VariableNames
